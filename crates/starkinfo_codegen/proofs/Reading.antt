-- What the tests of the code tell of a node in the table: its operation, and a leaf's reference. Over plain variables.
-- Assumes nothing.
use Prim.Native.Nat.{ℕ, suc, ◌+◌, ◌<◌, ◌≤◌}
use mathlib.Core.Path.{◌≡◌, refl, sym, ◌∙◌, ap, subst}
use mathlib.Core.Bool.{Bool, true, false, cond}
use mathlib.Core.List.{List}
use mathlib.Core.Logic.{◌⊎◌, inl, inr}
use native.Mathlib.Omega.{arith}
use lib.Dec.{eqb}
use Rattle.std.specs.Prelude.{Option, Some, None}
use borrow.Author.Tests.{eq-eqb, ne_eqb, eqb-true, eqb-false}
use Rattle.kinds.specs.KindBytes as kind
use Rattle.kinds.specs.OpBytes as op
use Rattle.kinds.specs.Range.{within_in, within-below, within-above}
use Rattle.kinds.specs.References.{plain_ref, number_ref}
use Rattle.kinds.specs.declared.reference.Reference.{Reference}
use Rattle.frames.specs.declared.node.Node.{Node}
use Rattle.pool.specs.Trees.{Class, leafy, class}
use Rattle.pool.specs.Laws.Trees.{class-leafy}
use Rattle.starkinfo_codegen.specs.Words.{node_of_words}
use Rattle.starkinfo_codegen.specs.declared.operation.Operation.{Operation}
use Rattle.starkinfo_codegen.specs.Operations.{nothing, operation, pair_at, product_at, fused_of, operation_by, operation_at, computes}
use Rattle.starkinfo_codegen.specs.Sources.{leaf_by, step_with}

-- ── an add, fused ────────────────────────────────────────────────────────────
module _ (w : List ℕ) (a b : ℕ) where
  pub fused-first : (node_of_words w a).kind ≡ kind.mul → fused_of w a b ≡ product_at w a b
  unfolding fused_of
  fused-first h = rw (eq-eqb (node_of_words w a).kind kind.mul h)

  module _ (n : (node_of_words w a).kind ≡ kind.mul → ⊥) where
    pub fused-second : (node_of_words w b).kind ≡ kind.mul → fused_of w a b ≡ product_at w b a
    unfolding fused_of
    fused-second h = rw (ne_eqb (node_of_words w a).kind kind.mul n, eq-eqb (node_of_words w b).kind kind.mul h)

    pub fused-neither : ((node_of_words w b).kind ≡ kind.mul → ⊥) → fused_of w a b ≡ operation op.add a b nothing
    unfolding fused_of
    fused-neither m = rw (ne_eqb (node_of_words w a).kind kind.mul n, ne_eqb (node_of_words w b).kind kind.mul m)

  -- it is a step either way
  pub fused-steps : (fused_of w a b).op ≡ 0 → ⊥
  unfolding fused_of
  fused-steps = go (eqb (node_of_words w a).kind kind.mul) (eqb (node_of_words w b).kind kind.mul)
    where
      go : (x y : Bool) → (cond x (product_at w a b) (cond y (product_at w b a) (operation op.add a b nothing))).op ≡ 0 → ⊥
      go true y h = omega (arith, h)
      go false true h = omega (arith, h)
      go false false h = omega (arith, h)

-- ── what a node computes ─────────────────────────────────────────────────────
pub is_step : {o : Operation} {k a b c : ℕ} → o ≡ operation k a b c → 0 < k → o.op ≡ 0 → ⊥
is_step {o} {k} e h z = let u : o.op ≡ k = ap (λ (x : Operation). x.op) e in omega (arith, h, z, u)

pub steps_as : {o p : Operation} → o ≡ p → (p.op ≡ 0 → ⊥) → o.op ≡ 0 → ⊥
steps_as e n z = n (sym (ap (λ (x : Operation). x.op) e) ∙ z)

module _ (w : List ℕ) (f : Bool) (i : ℕ) {r : Option Operation} (g : computes w f i r) where
  pub does_step : {o : Operation} → r ≡ Some o → (o ≡ operation_at w f i) × (o.op ≡ 0 → ⊥)
  does_step {o} e = subst (computes w f i) e g

  pub no_step : r ≡ None → (operation_at w f i).op ≡ 0
  no_step e = subst (computes w f i) e g

-- ── by kind ──────────────────────────────────────────────────────────────────
-- the operation of a node of a known class
pub by-class : (w : List ℕ) (f : Bool) (i : ℕ) (c : Class) → class (node_of_words w i).kind ≡ c → operation_at w f i ≡ operation_by c w f i
unfolding operation_at
by-class w f i c q = ap (λ (z : Class). operation_by z w f i) q

-- the operation of a node of a known kind
pub by_kind : (w : List ℕ) (f : Bool) (i k : ℕ) → (node_of_words w i).kind ≡ k → operation_at w f i ≡ operation_by (class k) w f i
by_kind w f i k q = by-class w f i (class k) (ap class q)

pub one_of_two : (a k : ℕ) → a ≤ k → k < suc (suc a) → (k ≡ a) ⊎ (k ≡ suc a)
one_of_two a k g h = go (eqb k a) refl
  where
    go : (b : Bool) → eqb k a ≡ b → (k ≡ a) ⊎ (k ≡ suc a)
    go true q = inl (eqb-true k a q)
    go false q = let n = eqb-false k a q in inr (omega arith)

-- an add, by whether it is to be fused
pub by-fused : (w : List ℕ) (f : Bool) (i : ℕ) {b : Bool} → (node_of_words w i).kind ≡ kind.add → f ≡ b → operation_at w f i ≡ cond b (fused_of w (node_of_words w i).c0 (node_of_words w i).c1) (pair_at op.add w i)
by-fused w f i q e = by_kind w f i kind.add q ∙ ap (λ (b : Bool). cond b (fused_of w (node_of_words w i).c0 (node_of_words w i).c1) (pair_at op.add w i)) e

-- sub and mul: the step is of the node's own kind
pub by-pair : (w : List ℕ) (f : Bool) (i k : ℕ) → (node_of_words w i).kind ≡ k → (k ≡ kind.add → ⊥) → 1 ≤ k → k < 4 → operation_at w f i ≡ pair_at k w i
by-pair w f i k q n g h = go (one_of_two 2 k (omega arith) h)
  where
    go : (k ≡ 2) ⊎ (k ≡ 3) → operation_at w f i ≡ pair_at k w i
    go (inl e) = by_kind w f i 2 (q ∙ e) ∙ ap (λ o. pair_at o w i) (sym e)
    go (inr e) = by_kind w f i 3 (q ∙ e) ∙ ap (λ o. pair_at o w i) (sym e)

-- any other kind is a leaf's
pub by-leaf :
    (w : List ℕ) (f : Bool) (i k : ℕ) → (node_of_words w i).kind ≡ k → (k ≡ 4 → ⊥) → (k ≡ 5 → ⊥) → (k ≡ 6 → ⊥) → (k ≡ 7 → ⊥) → (k < 1) ⊎ (4 ≤ k) →
    operation_at w f i ≡ operation 0 nothing nothing nothing
by-leaf w f i k q n4 n5 n6 n7 (inl h) = by_kind w f i 0 (omega arith)
by-leaf w f i k q n4 n5 n6 n7 (inr h) = by-class w f i leafy (ap class q ∙ class-leafy k (omega arith))

-- ── a leaf ───────────────────────────────────────────────────────────────────
module _ (x : Node) (n row k : ℕ) (q : x.kind ≡ k) where
  pub leaf-number : k ≡ kind.number → leaf_by x n row ≡ number_ref n
  unfolding leaf_by
  leaf-number e = rw (eq-eqb x.kind kind.number (q ∙ e))

  module _ (m : k ≡ kind.number → ⊥) where
    no_number : eqb x.kind kind.number ≡ false
    no_number = ne_eqb x.kind kind.number (λ e. m (sym q ∙ e))

    pub leaf-row : kind.cm ≤ k → k ≤ kind.q → leaf_by x n row ≡ plain_ref k (row + x.next) x.id
    unfolding leaf_by
    leaf-row g h = rw (no_number, within_in kind.cm kind.q x.kind (omega arith, omega arith), q)

    pub leaf-flat : kind.public ≤ k → k ≤ kind.eval → leaf_by x n row ≡ plain_ref k 0 x.id
    unfolding leaf_by
    leaf-flat g h = rw (no_number, within-above kind.cm kind.q x.kind (omega arith), within_in kind.public kind.eval x.kind (omega arith, omega arith), q)

    pub leaf-x : kind.x_div_x_sub_xi ≤ k → k ≤ kind.x_div_x_sub_w_xi → leaf_by x n row ≡ plain_ref k 0 0
    unfolding leaf_by
    leaf-x g h =
        rw (
          no_number,
          within-above kind.cm kind.q x.kind (omega arith),
          within-above kind.public kind.eval x.kind (omega arith),
          within_in kind.x_div_x_sub_xi kind.x_div_x_sub_w_xi x.kind (omega arith, omega arith),
          q,
        )

    pub leaf-other : (k < kind.cm) ⊎ (kind.x_div_x_sub_w_xi < k) → leaf_by x n row ≡ plain_ref kind.x 0 0
    unfolding leaf_by
    leaf-other (inl h) =
        rw (
          no_number,
          within-below kind.cm kind.q x.kind (omega arith),
          within-below kind.public kind.eval x.kind (omega arith),
          within-below kind.x_div_x_sub_xi kind.x_div_x_sub_w_xi x.kind (omega arith),
        )
    leaf-other (inr h) =
        rw (
          no_number,
          within-above kind.cm kind.q x.kind (omega arith),
          within-above kind.public kind.eval x.kind (omega arith),
          within-above kind.x_div_x_sub_xi kind.x_div_x_sub_w_xi x.kind (omega arith),
        )

-- ── a step ───────────────────────────────────────────────────────────────────
pub same_step :
    (o : ℕ) {n n' : ℕ} {d d' r0 r0' r1 r1' r2 r2' : Reference} → n ≡ n' → d ≡ d' → r0 ≡ r0' → r1 ≡ r1' → r2 ≡ r2' →
    step_with o n d r0 r1 r2 ≡ step_with o n' d' r0' r1' r2'
same_step o en ed e0 e1 e2 = cc
