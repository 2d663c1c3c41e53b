-- The tree of a node in tables, by its kind: what a degree sees of it.
-- Assumes nothing.
use Rattle.std.specs.Prelude.{ℕ, ◌<◌, ◌≤◌, ◌≡◌, refl, Bool, true, false, cond, List, ◌⊎◌, eqb, ltb, length}
use Rattle.std.proofs.Common.{sym, ◌∙◌, ap, ap₂, subst, inl, inr, arith, ne_eqb, eqb-true, ltb-true, ltb-false}
use Rattle.std.proofs.lemmas.Bool.{eqb-false}
use Rattle.meaning.specs.Trees.{Lit, Op, OpC, Leaf, Expr, Placed, leaves, Each}
use Rattle.meaning.proofs.Laws.Tests.{each_left, each_right}
use Rattle.search_meaning.specs.Degrees.{Class, class_of}
use Rattle.kinds.specs.KindBytes as kind
use Rattle.kinds.specs.Range.{within, within_in, within-below, within-above}
use Rattle.frames.specs.declared.node.Node.{Node}
use Rattle.frames.specs.Tables.{kind_in, id_in, node_in}
use Rattle.pool.specs.Words.{c0_in, c1_in, c2_in}
use Rattle.pool.specs.Pool.{Pool, node, children}
use Rattle.pool.specs.Trees as pool
use Rattle.pool.specs.Trees.{leaf_of, class, tree}
use Rattle.pool.specs.Shaped.{Shaped}
use Rattle.pool.specs.Tabled.{Tables, tabled}
use Rattle.pool.specs.Laws.Trees.{arity, arity-is, tree-binary, tree-muladd, tree-constant, tree-neg, leaf-is}
use Rattle.pool.specs.Laws.Leads.{children-one, children-two, children-three}
use Rattle.pool.specs.Laws.Nodes as Nodes

-- a sum or a difference of two trees
pub data Sum : Expr → Expr → Expr → Type 0 where
  plus : {n : ℕ} {a b : Expr} → Sum (Expr.bin n Op.add a b) a b
  minus : {n : ℕ} {a b : Expr} → Sum (Expr.bin n Op.sub a b) a b

-- an operation on one tree
pub data Single : Expr → Expr → Type 0 where
  with_lit : {n : ℕ} {o : OpC} {a : Expr} {l : Lit} → Single (Expr.binc n o a l) a
  negated : {n : ℕ} {a : Expr} → Single (Expr.neg n a) a

-- what holds of each leaf holds of each part's
module _ (P : Placed → Type 0) where
  pub sum_leaves : {x a b : Expr} → Sum x a b → Each P (leaves x) → Each P (leaves a) × Each P (leaves b)
  sum_leaves (plus {n} {a} {b}) h = (each_left P (leaves a) (leaves b) h, each_right P (leaves a) (leaves b) h)
  sum_leaves (minus {n} {a} {b}) h = (each_left P (leaves a) (leaves b) h, each_right P (leaves a) (leaves b) h)

  pub single_leaves : {x a : Expr} → Single x a → Each P (leaves x) → Each P (leaves a)
  single_leaves with_lit h = h
  single_leaves negated h = h

-- what a degree sees of a leaf of this kind and id
abbrev pub class_by : ℕ → ℕ → Class
class_by k i =
    cond (eqb k kind.exp) (Class.reference i)
    (cond (within kind.number kind.challenge k) Class.constant
    (cond (eqb k kind.eval) Class.evaluation
    (cond (eqb k kind.q) Class.other
    (cond (within kind.x_div_x_sub_xi kind.x_div_x_sub_w_xi k) Class.other Class.column))))

-- ── kinds ────────────────────────────────────────────────────────────────────
apart : (k c : ℕ) → (k < c) ⊎ (c < k) → eqb k c ≡ false
apart k c (inl h) = ne_eqb k c (λ (q : k ≡ c). omega arith)
apart k c (inr h) = ne_eqb k c (λ (q : k ≡ c). omega arith)

not_within : (a b k : ℕ) → (k < a) ⊎ (b < k) → within a b k ≡ false
not_within a b k (inl h) = within-below a b k h
not_within a b k (inr h) = within-above a b k h

pub class_low : (k : ℕ) → k < 1 → class k ≡ pool.leafy
class_low k h = let z : k ≡ 0 = omega arith in rw z

pub class-high : (k : ℕ) → kind.neg < k → class k ≡ pool.leafy
class-high k h =
    rw (
      ne_eqb k kind.add (λ (q : k ≡ 1). omega arith),
      ne_eqb k kind.sub (λ (q : k ≡ 2). omega arith),
      ne_eqb k kind.mul (λ (q : k ≡ 3). omega arith),
      ne_eqb k kind.muladd (λ (q : k ≡ 4). omega arith),
      ne_eqb k kind.addc (λ (q : k ≡ 5). omega arith),
      ne_eqb k kind.mulc (λ (q : k ≡ 6). omega arith),
      ne_eqb k kind.neg (λ (q : k ≡ 7). omega arith),
    )

class-two : (k : ℕ) → 1 ≤ k → k ≤ kind.mul → (o : Op) × (class k ≡ pool.binary o)
class-two k a b = go (eqb k kind.add) refl (eqb k kind.sub) refl
  where
    go : (x : Bool) → eqb k kind.add ≡ x → (y : Bool) → eqb k kind.sub ≡ y → (o : Op) × (class k ≡ pool.binary o)
    go true q y r = let z : k ≡ 1 = eqb-true _ _ q in (Op.add, ap class z)
    go false q true r = let z : k ≡ 2 = eqb-true _ _ r in (Op.sub, ap class z)
    go false q false r =
        let u : k ≡ 1 → ⊥ = eqb-false _ _ q in
        let v : k ≡ 2 → ⊥ = eqb-false _ _ r in
        let z : k ≡ 3 = omega arith in (Op.mul, ap class z)

class-one : (k : ℕ) → kind.addc ≤ k → k ≤ kind.neg → ((o : OpC) × (class k ≡ pool.constant o)) ⊎ (class k ≡ pool.negation)
class-one k a b = go (eqb k kind.addc) refl (eqb k kind.mulc) refl
  where
    go : (x : Bool) → eqb k kind.addc ≡ x → (y : Bool) → eqb k kind.mulc ≡ y → ((o : OpC) × (class k ≡ pool.constant o)) ⊎ (class k ≡ pool.negation)
    go true q y r = let z : k ≡ 5 = eqb-true _ _ q in inl (OpC.addc, ap class z)
    go false q true r = let z : k ≡ 6 = eqb-true _ _ r in inl (OpC.mulc, ap class z)
    go false q false r =
        let u : k ≡ 5 → ⊥ = eqb-false _ _ q in
        let v : k ≡ 6 → ⊥ = eqb-false _ _ r in
        let z : k ≡ 7 = omega arith in inr (ap class z)

-- the arms of a match on the kind
module _ (k i : ℕ) where
  pub by-exp : k ≡ kind.exp → class_by k i ≡ Class.reference i
  by-exp h = rw h

  pub by-constant : kind.number ≤ k → k ≤ kind.challenge → class_by k i ≡ Class.constant
  by-constant a b = rw (ne_eqb k kind.exp (λ (q : k ≡ 18). omega arith), within_in kind.number kind.challenge k (a, b))

  pub by-eval : k ≡ kind.eval → class_by k i ≡ Class.evaluation
  by-eval h = rw (apart k kind.exp (inr (omega arith)), not_within kind.number kind.challenge k (inr (omega arith)), h)

  pub by-q : k ≡ kind.q → class_by k i ≡ Class.other
  by-q h = rw (apart k kind.exp (inr (omega arith)), not_within kind.number kind.challenge k (inl (omega arith)), apart k kind.eval (inl (omega arith)), h)

  pub by-quotient : kind.x_div_x_sub_xi ≤ k → k ≤ kind.x_div_x_sub_w_xi → class_by k i ≡ Class.other
  by-quotient a b =
      rw (
        apart k kind.exp (inr (omega arith)),
        not_within kind.number kind.challenge k (inr (omega arith)),
        apart k kind.eval (inr (omega arith)),
        apart k kind.q (inr (omega arith)),
        within_in kind.x_div_x_sub_xi kind.x_div_x_sub_w_xi k (a, b),
      )

  -- any other kind
  pub record Rest : Type 0 where
    pub exp : k ≡ kind.exp → ⊥
    pub q : k ≡ kind.q → ⊥
    pub flat : (k < kind.number) ⊎ (kind.eval < k)
    pub quotient : (k < kind.x_div_x_sub_xi) ⊎ (kind.x_div_x_sub_w_xi < k)

  pub by-rest : Rest → class_by k i ≡ Class.column
  by-rest r = rw (ne_eqb k kind.exp r.exp, not_within kind.number kind.challenge k (low r.flat), ne_eqb k kind.eval (eval r.flat), ne_eqb k kind.q r.q, not_within kind.x_div_x_sub_xi kind.x_div_x_sub_w_xi k r.quotient)
    where
      low : (k < kind.number) ⊎ (kind.eval < k) → (k < kind.number) ⊎ (kind.challenge < k)
      low (inl h) = inl h
      low (inr h) = inr (omega arith)

      eval : (k < kind.number) ⊎ (kind.eval < k) → k ≡ kind.eval → ⊥
      eval (inl h) q = omega arith
      eval (inr h) q = omega arith

out-four : (k : ℕ) → (k ≡ 20 → ⊥) → (k ≡ 21 → ⊥) → (k ≡ 22 → ⊥) → (k ≡ 23 → ⊥) → 20 ≤ k → k ≤ 23 → ⊥
out-four k a b c d l u = omega arith

out-two : (k : ℕ) → (k ≡ 24 → ⊥) → (k ≡ 25 → ⊥) → 24 ≤ k → k ≤ 25 → ⊥
out-two k a b l u = omega arith

peel : (P : Leaf → Type 0) (b : Bool) (u v : Leaf) → (b ≡ true → P u) → (b ≡ false → P v) → P (cond b u v)
peel P true u v f g = f refl
peel P false u v f g = g refl

-- THE CLASS OF A LEAF by its kind
pub class-is : (x : Node) → class_of (leaf_of x) ≡ class_by x.kind x.id
class-is x =
    peel P (eqb k kind.cm) _ _ (λ q. let z = eqb-true k kind.cm q in sym (by-rest k i (record { exp = λ h. omega arith; q = λ h. omega arith; flat = inl (omega arith); quotient = inl (omega arith) }))) (λ n1.
    peel P (eqb k kind.const) _ _ (λ q. let z = eqb-true k kind.const q in sym (by-rest k i (record { exp = λ h. omega arith; q = λ h. omega arith; flat = inl (omega arith); quotient = inl (omega arith) }))) (λ n2.
    peel P (eqb k kind.exp) _ _ (λ q. sym (by-exp k i (eqb-true k kind.exp q))) (λ n3.
    peel P (eqb k kind.q) _ _ (λ q. sym (by-q k i (eqb-true k kind.q q))) (λ n4.
    peel P (eqb k kind.number) _ _ (λ q. let z = eqb-true k kind.number q in sym (by-constant k i (omega arith) (omega arith))) (λ n5.
    peel P (eqb k kind.public) _ _ (λ q. let z = eqb-true k kind.public q in sym (by-constant k i (omega arith) (omega arith))) (λ n6.
    peel P (eqb k kind.challenge) _ _ (λ q. let z = eqb-true k kind.challenge q in sym (by-constant k i (omega arith) (omega arith))) (λ n7.
    peel P (eqb k kind.eval) _ _ (λ q. sym (by-eval k i (eqb-true k kind.eval q))) (λ n8.
    peel P (eqb k kind.x_div_x_sub_xi) _ _ (λ q. let z = eqb-true k kind.x_div_x_sub_xi q in sym (by-quotient k i (omega arith) (omega arith))) (λ n9.
    peel P (eqb k kind.x_div_x_sub_w_xi) _ _ (λ q. let z = eqb-true k kind.x_div_x_sub_w_xi q in sym (by-quotient k i (omega arith) (omega arith))) (λ n10.
    let a = eqb-false k kind.number n5 in
    let b = eqb-false k kind.public n6 in
    let c = eqb-false k kind.challenge n7 in
    let d = eqb-false k kind.eval n8 in
    let e = eqb-false k kind.x_div_x_sub_xi n9 in
    let f = eqb-false k kind.x_div_x_sub_w_xi n10 in
    sym (by-rest k i (record { exp = eqb-false k kind.exp n3; q = eqb-false k kind.q n4; flat = beside kind.number kind.eval (out-four k a b c d); quotient = beside kind.x_div_x_sub_xi kind.x_div_x_sub_w_xi (out-two k e f) }))))))))))))
  where
    k : ℕ
    k = x.kind

    i : ℕ
    i = x.id

    P : Leaf → Type 0
    P l = class_of l ≡ class_by k i

    beside : (a b : ℕ) → (a ≤ k → k ≤ b → ⊥) → (k < a) ⊎ (b < k)
    beside a b h = go (ltb k a) refl (ltb b k) refl
      where
        go : (y : Bool) → ltb k a ≡ y → (z : Bool) → ltb b k ≡ z → (k < a) ⊎ (b < k)
        go true p z q = inl (ltb-true k a p)
        go false p true q = inr (ltb-true b k q)
        go false p false q = absurd (h (ltb-false k a p) (ltb-false b k q))

-- ── trees ────────────────────────────────────────────────────────────────────
module _ (t : Tables) (shaped : Shaped (tabled t)) {i : ℕ} (there : i < t.node_count) where
  abbrev p : Pool
  p = tabled t

  abbrev k : ℕ
  k = kind_in t.nodes i

  inside : i < length p.nodes
  inside = Nodes.inside t shaped there

  is : node p i ≡ node_in t.nodes t.literals i
  is = Nodes.is t shaped there

  kind-is : (node p i).kind ≡ k
  kind-is = ap (λ (y : Node). y.kind) is

  first : tree p (node p i).c0 ≡ tree p (c0_in t.nodes i)
  first = ap (λ (y : Node). tree p y.c0) is

  second : tree p (node p i).c1 ≡ tree p (c1_in t.nodes i)
  second = ap (λ (y : Node). tree p y.c1) is

  third : tree p (node p i).c2 ≡ tree p (c2_in t.nodes i)
  third = ap (λ (y : Node). tree p y.c2) is

  binary-is : (o : Op) → class k ≡ pool.binary o → tree p i ≡ Expr.bin i o (tree p (c0_in t.nodes i)) (tree p (c1_in t.nodes i))
  binary-is o h = tree-binary p shaped i inside (ap class kind-is ∙ h) ∙ ap₂ (Expr.bin i o) first second

  pub sum_is : 1 ≤ k → k ≤ kind.sub → Sum (tree p i) (tree p (c0_in t.nodes i)) (tree p (c1_in t.nodes i))
  sum_is a b = go (eqb k kind.add) refl
    where
      go : (b : Bool) → eqb k kind.add ≡ b → Sum (tree p i) (tree p (c0_in t.nodes i)) (tree p (c1_in t.nodes i))
      go true q = let z : k ≡ 1 = eqb-true _ _ q in rw (binary-is Op.add (ap class z)) plus
      go false q = let y : k ≡ 1 → ⊥ = eqb-false _ _ q in let z : k ≡ 2 = omega arith in rw (binary-is Op.sub (ap class z)) minus

  pub mul_is : k ≡ kind.mul → tree p i ≡ Expr.bin i Op.mul (tree p (c0_in t.nodes i)) (tree p (c1_in t.nodes i))
  mul_is h = binary-is Op.mul (ap class h)

  pub muladd-is : k ≡ kind.muladd → tree p i ≡ Expr.muladd i (tree p (c0_in t.nodes i)) (tree p (c1_in t.nodes i)) (tree p (c2_in t.nodes i))
  muladd-is h = tree-muladd p shaped i inside (ap class kind-is ∙ ap class h) ∙ rw (first, second, third)

  pub single-is : kind.addc ≤ k → k ≤ kind.neg → Single (tree p i) (tree p (c0_in t.nodes i))
  single-is a b = go (class-one k a b)
    where
      go : ((o : OpC) × (class k ≡ pool.constant o)) ⊎ (class k ≡ pool.negation) → Single (tree p i) (tree p (c0_in t.nodes i))
      go (inl o) = rw (tree-constant p shaped i inside (ap class kind-is ∙ o.1), first) with_lit
      go (inr h) = rw (tree-neg p shaped i inside (ap class kind-is ∙ h), first) negated

  -- ── children come before ───────────────────────────────────────────────────
  count_by : (c : pool.Class) → class k ≡ c → (node p i).count ≡ arity c
  count_by c h = shaped.counts i inside ∙ sym (arity-is (node p i).kind) ∙ ap arity (ap class kind-is ∙ h)

  earlier : (cs : List ℕ) → children (node p i) ≡ cs → Each (λ c. c < i) cs
  earlier cs h = subst (Each (λ c. c < i)) h (shaped.earlier i inside)

  c0-is : (node p i).c0 ≡ c0_in t.nodes i
  c0-is = ap (λ (y : Node). y.c0) is

  c1-is : (node p i).c1 ≡ c1_in t.nodes i
  c1-is = ap (λ (y : Node). y.c1) is

  c2-is : (node p i).c2 ≡ c2_in t.nodes i
  c2-is = ap (λ (y : Node). y.c2) is

  pub two-before : 1 ≤ k → k ≤ kind.mul → (c0_in t.nodes i < i) × (c1_in t.nodes i < i)
  two-before a b =
      let o = class-two k a b in
      let e = earlier _ (children-two (node p i) (count_by (pool.binary o.0) o.1)) in
      (omega (arith, e.0, c0-is), omega (arith, e.1.0, c1-is))

  pub three-before : k ≡ kind.muladd → (c0_in t.nodes i < i) × (c1_in t.nodes i < i) × (c2_in t.nodes i < i)
  three-before h =
      let e = earlier _ (children-three (node p i) (count_by pool.fused (ap class h))) in
      (omega (arith, e.0, c0-is), omega (arith, e.1.0, c1-is), omega (arith, e.1.1.0, c2-is))

  pub one-before : kind.addc ≤ k → k ≤ kind.neg → c0_in t.nodes i < i
  one-before a b =
      let e = earlier _ (children-one (node p i) (count (class-one k a b))) in
      omega (arith, e.0, c0-is)
    where
      count : ((o : OpC) × (class k ≡ pool.constant o)) ⊎ (class k ≡ pool.negation) → (node p i).count ≡ 1
      count (inl o) = count_by (pool.constant o.0) o.1
      count (inr h) = count_by pool.negation h

  -- a leaf, and its class
  pub leaf-at : (k < 1) ⊎ (kind.neg < k) → (l : Leaf) × (tree p i ≡ Expr.leaf i l) × (class_of l ≡ class_by k (id_in t.nodes i))
  leaf-at h = (leaf_of (node p i), leaf-is p shaped i inside (ap class kind-is ∙ leafy h), class-is (node p i) ∙ ap (λ (y : Node). class_by y.kind y.id) is)
    where
      leafy : (k < 1) ⊎ (kind.neg < k) → class k ≡ pool.leafy
      leafy (inl z) = class_low k z
      leafy (inr z) = class-high k z
