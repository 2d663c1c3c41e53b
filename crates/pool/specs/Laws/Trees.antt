-- Laws of the tree at a node of a well-shaped pool: one for each class of kinds, with the fuel hidden.
-- Assumes nothing.
use Rattle.std.specs.Prelude.{ℕ, zero, suc, ◌<◌, ◌≡◌, refl, Bool, true, false, List, [], ◌∷◌, ◌++◌, ◌↔◌, length, T, eqb, ltb}
use Rattle.std.proofs.Common.{sym, ◌∙◌, ap, ap₂, subst, append-nil, arith, eqb→eq, ne_eqb, ltb-true, ltb-false}
use Rattle.meaning.specs.Trees.{Op, OpC, Expr, Placed, leaves, Each}
use Rattle.meaning.proofs.Laws.Tests.{each_left, each_right, each-join, each_map}
use Rattle.frames.specs.declared.node.Node.{Node}
use Rattle.kinds.specs.Kinds.{child_count}
use Rattle.kinds.specs.Range.{within, within-above, passes, pass}
use Rattle.pool.specs.Pool.{Pool, node, children}
use Rattle.pool.specs.Trees.{leaf_of, literal_of, Class, binary, fused, constant, negation, leafy, class, grown, tree_below, tree}
use Rattle.pool.specs.Shaped.{Shaped}

-- how many children a class has
abbrev pub arity : Class → ℕ
arity (binary o) = 2
arity fused = 3
arity (constant o) = 1
arity negation = 1
arity leafy = 0

pub class-leafy : (k : ℕ) → 7 < k → class k ≡ leafy
class-leafy k h =
    rw (
      ne_eqb k 1 (λ e. omega arith),
      ne_eqb k 2 (λ e. omega arith),
      ne_eqb k 3 (λ e. omega arith),
      ne_eqb k 4 (λ e. omega arith),
      ne_eqb k 5 (λ e. omega arith),
      ne_eqb k 6 (λ e. omega arith),
      ne_eqb k 7 (λ e. omega arith),
    )

-- the table's count is the class's
pub arity-is : (k : ℕ) → arity (class k) ≡ child_count k
unfolding child_count within
arity-is k = go (ltb k 8) refl
  where
    same : ℕ → Bool
    same k = eqb (arity (class k)) (child_count k)

    small : T (passes same 0 8)
    small = tt

    large : 7 < k → child_count k ≡ 0
    large h = rw (ne_eqb k 4 (λ e. omega arith), within-above 1 3 k (omega arith), within-above 5 7 k (omega arith))

    go : (b : Bool) → ltb k 8 ≡ b → arity (class k) ≡ child_count k
    go true h = eqb→eq _ _ (pass same 8 0 small k (omega (arith, ltb-true k 8 h)))
    go false h = let l : 7 < k = ltb-false k 8 h in ap arity (class-leafy k l) ∙ sym (large l)

-- the leaves of these nodes' trees, from left to right
abbrev pub leaves_of : Pool → List ℕ → List Placed
leaves_of p [] = []
leaves_of p (c ∷ cs) = leaves (tree p c) ++ leaves_of p cs

module _ (p : Pool) (shaped : Shaped p) where
  -- the children of a node by its class
  abbrev ChildrenOf : Class → Node → List ℕ
  ChildrenOf (binary o) x = x.c0 ∷ x.c1 ∷ []
  ChildrenOf fused x = x.c0 ∷ x.c1 ∷ x.c2 ∷ []
  ChildrenOf (constant o) x = x.c0 ∷ []
  ChildrenOf negation x = x.c0 ∷ []
  ChildrenOf leafy x = []

  children-by : (c : Class) (x : Node) → x.count ≡ arity c → children x ≡ ChildrenOf c x
  children-by (binary o) x h = rw h
  children-by fused x h = rw h
  children-by (constant o) x h = rw h
  children-by negation x h = rw h
  children-by leafy x h = rw h

  pub children_are : (n : ℕ) → n < length p.nodes → children (node p n) ≡ ChildrenOf (class (node p n).kind) (node p n)
  children_are n h = children-by (class (node p n).kind) (node p n) (shaped.counts n h ∙ sym (arity-is (node p n).kind))

  earlier-by : (n : ℕ) → n < length p.nodes → Each (λ c. c < n) (ChildrenOf (class (node p n).kind) (node p n))
  earlier-by n h = subst (Each (λ c. c < n)) (children_are n h) (shaped.earlier n h)

  -- a tree's children's trees do not depend on how many levels are allowed, where they suffice
  grown-same :
      (c : Class) (f g : ℕ → Expr) (n : ℕ) (x : Node) → Each (λ k. f k ≡ g k) (ChildrenOf c x) → grown c f n x ≡ grown c g n x
  grown-same (binary o) f g n x h = ap₂ (Expr.bin n o) h.0 h.1.0
  grown-same fused f g n x h = rw (h.0, h.1.0, h.1.1.0)
  grown-same (constant o) f g n x h = ap (λ a. Expr.binc n o a (literal_of x)) h.0
  grown-same negation f g n x h = ap (Expr.neg n) h.0
  grown-same leafy f g n x h = refl

  levels : (k m n : ℕ) → n < k → n < m → n < length p.nodes → tree_below p k n ≡ tree_below p m n
  levels zero m n a b h = absurd (omega arith)
  levels (suc k) zero n a b h = absurd (omega arith)
  levels (suc k) (suc m) n a b h =
      grown-same (class (node p n).kind) (tree_below p k) (tree_below p m) n (node p n)
      (each_map (λ c. c < n) (λ c. tree_below p k c ≡ tree_below p m c) (λ c l. levels k m c (omega arith) (omega arith) (omega arith))
      (ChildrenOf (class (node p n).kind) (node p n)) (earlier-by n h))

  -- THE LAW OF TREES: a node's tree is made of its children's
  pub tree_is : (n : ℕ) → n < length p.nodes → tree p n ≡ grown (class (node p n).kind) (tree p) n (node p n)
  unfolding tree
  tree_is n h =
      grown-same (class (node p n).kind) (tree_below p n) (λ c. tree_below p (suc c) c) n (node p n)
      (each_map (λ c. c < n) (λ c. tree_below p n c ≡ tree_below p (suc c) c) (λ c l. levels n (suc c) c l (omega arith) (omega arith))
      (ChildrenOf (class (node p n).kind) (node p n)) (earlier-by n h))

  -- P of each leaf of each of these nodes' trees
  abbrev pub AllUnder : (Placed → Type 0) → List ℕ → Type 0
  AllUnder P cs = Each (λ c. Each P (leaves (tree p c))) cs

  grown-leaves :
      (P : Placed → Type 0) (c : Class) (n : ℕ) (x : Node) → (c ≡ leafy → ⊥) →
      Each P (leaves (grown c (tree p) n x)) ↔ AllUnder P (ChildrenOf c x)
  grown-leaves P (binary o) n x h =
      let A = leaves (tree p x.c0) in
      let B = leaves (tree p x.c1) in
      (λ q. (each_left P A B q, (each_right P A B q, tt)), λ q. each-join P A B q.0 q.1.0)
  grown-leaves P fused n x h =
      let A = leaves (tree p x.c0) in
      let B = leaves (tree p x.c1) in
      let C = leaves (tree p x.c2) in (
        λ q. let k = each_right P A (B ++ C) q in (each_left P A (B ++ C) q, (each_left P B C k, (each_right P B C k, tt))),
        λ q. each-join P A (B ++ C) q.0 (each-join P B C q.1.0 q.1.1.0),
      )
  grown-leaves P (constant o) n x h = (λ q. (q, tt), λ q. q.0)
  grown-leaves P negation n x h = (λ q. (q, tt), λ q. q.0)
  grown-leaves P leafy n x h = absurd (h refl)

  -- AN OPERATION'S LEAVES are its children's
  pub leaves-under :
      (P : Placed → Type 0) (n : ℕ) → n < length p.nodes → (class (node p n).kind ≡ leafy → ⊥) →
      Each P (leaves (tree p n)) ↔ AllUnder P (children (node p n))
  leaves-under P n h o =
      rw (tree_is n h, children_are n h) (grown-leaves P (class (node p n).kind) n (node p n) o)

  grown-leaves_are : (c : Class) (n : ℕ) (x : Node) → (c ≡ leafy → ⊥) → leaves (grown c (tree p) n x) ≡ leaves_of p (ChildrenOf c x)
  grown-leaves_are (binary o) n x h = ap (λ z. leaves (tree p x.c0) ++ z) (sym (append-nil (leaves (tree p x.c1))))
  grown-leaves_are fused n x h = ap (λ z. leaves (tree p x.c0) ++ (leaves (tree p x.c1) ++ z)) (sym (append-nil (leaves (tree p x.c2))))
  grown-leaves_are (constant o) n x h = sym (append-nil (leaves (tree p x.c0)))
  grown-leaves_are negation n x h = sym (append-nil (leaves (tree p x.c0)))
  grown-leaves_are leafy n x h = absurd (h refl)

  -- and in that order
  pub leaves_are : (n : ℕ) → n < length p.nodes → (class (node p n).kind ≡ leafy → ⊥) → leaves (tree p n) ≡ leaves_of p (children (node p n))
  leaves_are n h o = ap leaves (tree_is n h) ∙ grown-leaves_are (class (node p n).kind) n (node p n) o ∙ ap (leaves_of p) (sym (children_are n h))

  -- A LEAF'S TREE is that leaf
  pub leaf-is : (n : ℕ) → n < length p.nodes → class (node p n).kind ≡ leafy → tree p n ≡ Expr.leaf n (leaf_of (node p n))
  leaf-is n h q = tree_is n h ∙ rw q

  -- ONE LAW FOR EACH CLASS OF KINDS
  module _ (n : ℕ) (h : n < length p.nodes) where
    pub tree-binary : {o : Op} → class (node p n).kind ≡ binary o → tree p n ≡ Expr.bin n o (tree p (node p n).c0) (tree p (node p n).c1)
    tree-binary q = tree_is n h ∙ rw q

    pub tree-muladd : class (node p n).kind ≡ fused → tree p n ≡ Expr.muladd n (tree p (node p n).c0) (tree p (node p n).c1) (tree p (node p n).c2)
    tree-muladd q = tree_is n h ∙ rw q

    pub tree-constant : {o : OpC} → class (node p n).kind ≡ constant o → tree p n ≡ Expr.binc n o (tree p (node p n).c0) (literal_of (node p n))
    tree-constant q = tree_is n h ∙ rw q

    pub tree-neg : class (node p n).kind ≡ negation → tree p n ≡ Expr.neg n (tree p (node p n).c0)
    tree-neg q = tree_is n h ∙ rw q
