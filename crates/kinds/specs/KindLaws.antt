-- What follows from the rules on kinds and steps.
-- Assumes nothing.
use Rattle.std.specs.Prelude.{◌≡◌, refl, Bool, true, false, cond, ◌||◌, ◌⊎◌, ℕ, ◌≤◌, ◌<◌, leb, eqb}
use Rattle.std.proofs.Common.{sym, inl, inr, arith, leb→le}
use Rattle.kinds.specs.Range.{within, within-true, pass, value-over}
use Rattle.kinds.specs.KindBytes as kind
use Rattle.kinds.specs.Kinds.{is_operation, is_leaf, is_node_kind, child_count}
use Rattle.kinds.specs.OpBytes as op
use Rattle.kinds.specs.StepOps.{sources_needed}

pub node-cases : (k : ℕ) → is_node_kind k ≡ true → (is_operation k ≡ true) ⊎ (is_leaf k ≡ true)
unfolding is_node_kind
node-cases k e = by (is_operation k) (is_leaf k) e
  where
    by : (s t : Bool) → (s || t) ≡ true → (s ≡ true) ⊎ (t ≡ true)
    by true t e = inl refl
    by false t e = inr e

pub leaf-range : (k : ℕ) → is_leaf k ≡ true → (kind.cm ≤ k) × (k ≤ kind.x)
unfolding is_leaf
leaf-range k e = within-true kind.cm kind.x k e

pub operation-range : (k : ℕ) → is_operation k ≡ true → (kind.add ≤ k) × (k ≤ kind.neg)
unfolding is_operation
operation-range k e = within-true kind.add kind.neg k e

pub leaf_childless : (k : ℕ) → is_leaf k ≡ true → child_count k ≡ 0
unfolding child_count within
leaf_childless k e = sym (value-over child_count 0 kind.cm kind.x tt k (leaf-range k e))

pub operation-children : (k : ℕ) → is_operation k ≡ true → 0 < child_count k
unfolding child_count within
operation-children k e =
    let r : (kind.add ≤ k) × (k ≤ kind.neg) = operation-range k e in
    leb→le 1 (child_count k) (pass (λ j. leb 1 (child_count j)) 7 kind.add tt k (omega arith))

at-most-three : (a b c : Bool) (x y z : ℕ) → (x ≤ 3) × (y ≤ 3) × (z ≤ 3) → cond a x (cond b y (cond c z 0)) ≤ 3
at-most-three true b c x y z h = h.0
at-most-three false true c x y z h = h.1
at-most-three false false true x y z h = h.2
at-most-three false false false x y z h = omega arith

pub child-count-small : (k : ℕ) → child_count k ≤ 3
unfolding child_count
child-count-small k = at-most-three (eqb k kind.muladd) (within kind.add kind.mul k) (within kind.addc kind.neg k) 3 2 1 (omega arith)

pub sources-small : (o : ℕ) → sources_needed o ≤ 3
unfolding sources_needed
sources-small o = at-most-three (eqb o op.copy) (eqb o op.muladd) (within op.add op.mul o) 1 3 2 (omega arith)
