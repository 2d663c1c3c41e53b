-- The leaves of a node by its operands, and the first of them that reads a row that is not there. Over plain variables.
-- Assumes nothing.
use Prim.Native.Nat.{ℕ, ◌+◌, ◌<◌, ◌≤◌}
use mathlib.Core.Path.{◌≡◌, refl, sym, ◌∙◌, ap, subst}
use mathlib.Core.Bool.{Bool, true, false, cond}
use mathlib.Core.Option.{some, none-ne-some, some-injective}
use Rattle.std.specs.Prelude.{Option, Some, None}
use mathlib.Core.List.{List, [], ◌∷◌, ◌++◌, append-nil}
use mathlib.Core.Logic.{◌⊎◌, inl, inr}
use native.Mathlib.Omega.{arith}
use lib.Dec.{eqb, ltb}
use borrow.Author.Tests.{ne_eqb, lt-ltb, le-ltb, eqb-false}
use Rattle.meaning.specs.Refusals.{Refusal, Answer, done, refused, ◌then◌}
use Rattle.meaning.specs.Trees.{Leaf, Expr, Placed, ◌at◌, leaves}
use Rattle.meaning.specs.Order.{in_rows, primed, own}
use Rattle.kinds.specs.KindBytes as kind
use Rattle.frames.specs.declared.node.Node.{Node}
use Rattle.frames.specs.Tables.{node_in}
use Rattle.pool.specs.Trees.{leaf_of}
use Rattle.pool.specs.Laws.Tabled.{node_at}
use Rattle.starkinfo_codegen.specs.Operations.{literal, operation_at}
use Rattle.starkinfo_codegen.specs.Plans.{brought, absent, Plan, plan_of}
use Rattle.starkinfo_codegen.specs.Emitting.{Rest, tables_of, Pooled, tree_of, part_of, There}
use Rattle.starkinfo_codegen.specs.Ordering.{part_leaves, leaves_of, blames, OutAsks}
use Rattle.starkinfo_codegen.specs.declared.operation.Operation.{Operation}
use Rattle.starkinfo_codegen.proofs.Planned.{Operand, Planned, part-under}
use Rattle.starkinfo_codegen.proofs.Calls.{leaf-tree, does, under-there}

-- ── the leaves of a node ─────────────────────────────────────────────────────
-- an operation's are those of its operands, in order
plan-leaves : (e : Expr) {q : Plan} → plan_of e ≡ some q → leaves e ≡ part_leaves q.first ++ (part_leaves q.second ++ part_leaves q.third)
plan-leaves (Expr.leaf n l) {q} h = absurd (none-ne-some q h)
plan-leaves (Expr.bin n o a b) {q} h = rw (← some-injective _ q h) (ap (λ l. leaves a ++ l) (sym (append-nil (leaves b))))
plan-leaves (Expr.muladd n a b c) {q} h = rw (← some-injective _ q h)
plan-leaves (Expr.binc n o a l) {q} h = rw (← some-injective _ q h) (sym (append-nil (leaves a)))
plan-leaves (Expr.neg n a) {q} h = rw (← some-injective _ q h) (sym (append-nil (leaves a)))

module _ (w : List ℕ) (b : Rest) (f : Bool) where
  abbrev L : ℕ → List Placed
  L = leaves_of w b f

  pub node-leaves : (i : ℕ) → i < 4096 → L i ≡ leaves (tree_of w b f i)
  node-leaves i h = ap part_leaves (part-under w b f i h)

  pub past-leaves : (i : ℕ) → 4096 ≤ i → L i ≡ []
  unfolding part_of
  past-leaves i h = rw (le-ltb i 4096 h) (go (eqb i literal))
    where
      go : (x : Bool) → part_leaves (cond x brought absent) ≡ []
      go true = refl
      go false = refl

  module _ (pooled : Pooled w b) (i : ℕ) (few : i < 4096) (there : There w b f i) (o : Operation) (eo : o ≡ operation_at w f i) where
    pub leaf-leaves : o.op ≡ 0 → L i ≡ (leaf_of (node_in w b.literals i) at i) ∷ []
    leaf-leaves z =
        node-leaves i few ∙ ap leaves (leaf-tree w b f pooled i few there o eo z)
        ∙ ap (λ (x : Node). (leaf_of x at i) ∷ []) (node_at (tables_of w b) i (there few))

    pub does-leaves : (o.op ≡ 0 → ⊥) → L i ≡ L o.a ++ (L o.b ++ L o.c)
    does-leaves n = node-leaves i few ∙ plan-leaves (tree_of w b f i) (does w b f pooled i few there o eo n).plans

-- ── a leaf ───────────────────────────────────────────────────────────────────
abbrev pub blamed_on : ℕ → Answer (Unit {0})
blamed_on i = refused Refusal.double_prime (some i)

-- what is of either is of the chosen
either : (Q : Leaf → Type 0) (c : Bool) (k l : Leaf) → Q k → Q l → Q (cond c k l)
either Q true k l f g = f
either Q false k l f g = g

module _ (x : Node) (i row : ℕ) where
  -- a leaf of another kind reads no row
  pub flat_out : (x.kind < kind.cm) ⊎ (kind.q < x.kind) → primed 2 (leaf_of x) i row ≡ done tt
  flat_out h =
      rw (
        ne_eqb x.kind kind.cm (λ e. outside h (omega arith) (omega arith)),
        ne_eqb x.kind kind.const (λ e. outside h (omega arith) (omega arith)),
        ne_eqb x.kind kind.exp (λ e. outside h (omega arith) (omega arith)),
        ne_eqb x.kind kind.q (λ e. outside h (omega arith) (omega arith)),
      )
      (either Q (eqb x.kind kind.number) _ _ refl
      (either Q (eqb x.kind kind.public) _ _ refl
      (either Q (eqb x.kind kind.challenge) _ _ refl
      (either Q (eqb x.kind kind.eval) _ _ refl
      (either Q (eqb x.kind kind.x_div_x_sub_xi) _ _ refl
      (either Q (eqb x.kind kind.x_div_x_sub_w_xi) _ _ refl refl))))))
    where
      outside : (x.kind < kind.cm) ⊎ (kind.q < x.kind) → kind.cm ≤ x.kind → x.kind ≤ kind.q → ⊥
      outside (inl l) a b = omega arith
      outside (inr l) a b = omega arith

      Q : Leaf → Type 0
      Q l = primed 2 l i row ≡ done tt

  module _ (a : kind.cm ≤ x.kind) (b : x.kind ≤ kind.q) where
    -- a leaf of these reads one
    row_of : in_rows 2 (leaf_of x) row ≡ ltb (row + x.next) 2
    row_of = go (eqb x.kind kind.cm) (eqb x.kind kind.const) (eqb x.kind kind.exp) refl refl refl
      where
        go :
            (c d e : Bool) → eqb x.kind kind.cm ≡ c → eqb x.kind kind.const ≡ d → eqb x.kind kind.exp ≡ e →
            in_rows 2 (leaf_of x) row ≡ ltb (row + x.next) 2
        go true d e p q r = rw p
        go false true e p q r = rw (p, q)
        go false false true p q r = rw (p, q, r)
        go false false false p q r =
            let h : x.kind ≡ kind.q = omega (arith, a, b, eqb-false x.kind kind.cm p, eqb-false x.kind kind.const q, eqb-false x.kind kind.exp r) in
            rw h

    pub row_in : row + x.next < 2 → primed 2 (leaf_of x) i row ≡ done tt
    row_in h = ap (λ (c : Bool). cond c (done tt) (refused Refusal.double_prime (some i))) (row_of ∙ lt-ltb (row + x.next) 2 h)

    pub row_out : 2 ≤ row + x.next → primed 2 (leaf_of x) i row ≡ blamed_on i
    row_out h = ap (λ (c : Bool). cond c (done tt) (refused Refusal.double_prime (some i))) (row_of ∙ le-ltb (row + x.next) 2 h)

-- ── leaves one after another ─────────────────────────────────────────────────
then_same : (x : Answer (Unit {0})) → (x then λ _. done tt) ≡ x
then_same (done u) = refl
then_same (refused r n) = refl

own-append : (xs ys : List Placed) (r : ℕ) → own 2 (xs ++ ys) r ≡ (own 2 xs r then λ _. own 2 ys r)
own-append [] ys r = refl
own-append ((l at n) ∷ xs) ys r = go (primed 2 l n r) (own-append xs ys r)
  where
    go : (z : Answer (Unit {0})) → own 2 (xs ++ ys) r ≡ (own 2 xs r then λ _. own 2 ys r) → (z then λ _. own 2 (xs ++ ys) r) ≡ ((z then λ _. own 2 xs r) then λ _. own 2 ys r)
    go (done u) h = h
    go (refused q m) h = refl

-- one leaf
own-one : (l : Leaf) (n r : ℕ) → own 2 ((l at n) ∷ []) r ≡ primed 2 l n r
own-one l n r = then_same (primed 2 l n r)

-- the answer for the first leaves is the one for all, where it blames
blame-stops : (xs ys : List Placed) (r v : ℕ) → own 2 xs r ≡ blamed_on v → own 2 (xs ++ ys) r ≡ blamed_on v
blame-stops xs ys r v h = own-append xs ys r ∙ rw h

-- and else the one for the others is
blame-goes : (xs ys : List Placed) (r : ℕ) → own 2 xs r ≡ done tt → own 2 (xs ++ ys) r ≡ own 2 ys r
blame-goes xs ys r h = own-append xs ys r ∙ rw h

module _ (w : List ℕ) (b : Rest) (f : Bool) (row i : ℕ) (a : OutAsks w b f row i) where
  abbrev pub Own : ℕ → Option ℕ → Type 0
  Own c r = blames (own 2 (leaves_of w b f c) row) r

  pub past-gives : 4096 ≤ i → Own i None
  past-gives h = ap (λ l. own 2 l row) (past-leaves w b f i h)

  module _ (few : i < 4096) (o : Operation) (eo : o ≡ operation_at w f i) where
    pub leaf-gives : o.op ≡ 0 → (v : Option ℕ) → blames (primed 2 (leaf_of (node_in w b.literals i)) i row) v → Own i v
    leaf-gives z v h =
        subst (λ x. blames x v) (sym (ap (λ l. own 2 l row) (leaf-leaves w b f a.pool i few a.there o eo z) ∙ own-one (leaf_of (node_in w b.literals i)) i row)) h

    module _ (n : o.op ≡ 0 → ⊥) where
      D : Planned w b f i o
      D = does w b f a.pool i few a.there o eo n

      operand-asks : (c : ℕ) → Operand i c → OutAsks w b f row c
      operand-asks c k = record { pool = a.pool; there = under-there w b f a.pool i few a.there o eo n c k; in_row = a.in_row }

      pub out_first : OutAsks w b f row o.a
      out_first = operand-asks o.a D.first

      pub out-second : OutAsks w b f row o.b
      out-second = operand-asks o.b D.second

      pub out-third : OutAsks w b f row o.c
      out-third = operand-asks o.c D.third

      is : leaves_of w b f i ≡ leaves_of w b f o.a ++ (leaves_of w b f o.b ++ leaves_of w b f o.c)
      is = does-leaves w b f a.pool i few a.there o eo n

      whole : own 2 (leaves_of w b f i) row ≡ own 2 (leaves_of w b f o.a ++ (leaves_of w b f o.b ++ leaves_of w b f o.c)) row
      whole = ap (λ l. own 2 l row) is

      pub first-blamed : {r : Option ℕ} {v : ℕ} → Own o.a r → r ≡ Some v → Own i (Some v)
      first-blamed {r} {v} h e =
          let p : Own o.a (Some v) = subst (Own o.a) e h in
          (p.0, whole ∙ blame-stops (leaves_of w b f o.a) _ row v p.1)

      module _ {r : Option ℕ} (h : Own o.a r) (e : r ≡ None) where
        after-first : own 2 (leaves_of w b f i) row ≡ own 2 (leaves_of w b f o.b ++ leaves_of w b f o.c) row
        after-first = whole ∙ blame-goes (leaves_of w b f o.a) _ row (subst (Own o.a) e h)

        pub second-blamed : {u : Option ℕ} {v : ℕ} → Own o.b u → u ≡ Some v → Own i (Some v)
        second-blamed {u} {v} k m =
            let p : Own o.b (Some v) = subst (Own o.b) m k in
            (p.0, after-first ∙ blame-stops (leaves_of w b f o.b) _ row v p.1)

        pub third-blamed : {u : Option ℕ} → Own o.b u → u ≡ None → (t : Option ℕ) → Own o.c t → Own i t
        third-blamed {u} k m t q =
            subst (λ x. blames x t) (sym (after-first ∙ blame-goes (leaves_of w b f o.b) (leaves_of w b f o.c) row (subst (Own o.b) m k))) q
