-- The kinds between those that have a rule, and between those that a step may write.
-- Assumes nothing.
use Rattle.std.specs.Prelude.{ℕ, ◌≤◌, ◌<◌, ◌≡◌, refl, Bool, true, false, leb}
use Rattle.std.proofs.Common.{arith, leb-true, leb-false, ne_eqb}
use Rattle.kinds.specs.KindBytes as kind
use Rattle.kinds.specs.Range.{within, within-above, value-over, false-over}
use Rattle.step_dimensions.specs.Rules.{rule_no, is_destination}

pub none-low : (k : ℕ) → k < kind.q → (k ≡ kind.cm → ⊥) → (k ≡ kind.const → ⊥) → 0 ≡ rule_no k
unfolding rule_no within
none-low k h a b = by (leb k 0x0f) refl
  where
    by : (t : Bool) → leb k 0x0f ≡ t → 0 ≡ rule_no k
    by true e = let q : k ≤ 0x0f = leb-true k 0x0f e in value-over rule_no 0 0x00 0x0f tt k (omega arith)
    by false e = let q : 0x0f < k = leb-false k 0x0f e in value-over rule_no 0 kind.exp kind.exp tt k (omega arith)

pub one-next : (k : ℕ) → kind.q ≤ k → (k ≡ kind.q → ⊥) → k < kind.challenge → 5 ≡ rule_no k
unfolding rule_no within
one-next k h a g = value-over rule_no 5 kind.number kind.public tt k (omega arith)

pub none-mid : (k : ℕ) → kind.x < k → k < kind.tmp_exp → (k ≡ kind.tmp → ⊥) → 0 ≡ rule_no k
unfolding rule_no within
none-mid k h g a = by (leb k 0x1f) refl
  where
    by : (t : Bool) → leb k 0x1f ≡ t → 0 ≡ rule_no k
    by true e = let q : k ≤ 0x1f = leb-true k 0x1f e in value-over rule_no 0 0x1b 0x1f tt k (omega arith)
    by false e = let q : 0x1f < k = leb-false k 0x1f e in value-over rule_no 0 kind.f kind.f tt k (omega arith)

pub own-trees : (k : ℕ) → kind.tmp_exp ≤ k → (k ≡ kind.tmp_exp → ⊥) → (k ≡ kind.Zi → ⊥) → k < kind.Z → 2 ≡ rule_no k
unfolding rule_no within
own-trees k h a b g = value-over rule_no 2 kind.tree1 kind.tree4 tt k (omega arith)

pub none-past : (k : ℕ) → kind.Z ≤ k → (k ≡ kind.Z → ⊥) → 0 ≡ rule_no k
unfolding rule_no
none-past k h a =
    simp (
      ne_eqb k kind.tmp (λ e. omega arith),
      ne_eqb k kind.tmp_exp (λ e. omega arith),
      within-above kind.tree1 kind.tree4 k (omega arith),
      ne_eqb k kind.cm (λ e. omega arith),
      ne_eqb k kind.q (λ e. omega arith),
      ne_eqb k kind.const (λ e. omega arith),
      within-above kind.number kind.public k (omega arith),
      ne_eqb k kind.Zi (λ e. omega arith),
      within-above kind.challenge kind.eval k (omega arith),
      ne_eqb k kind.Z a,
      within-above kind.x_div_x_sub_xi kind.x k (omega arith),
    )

pub not_low : (k : ℕ) → k < kind.exp → (k ≡ kind.cm → ⊥) → false ≡ is_destination k
unfolding is_destination within
not_low k h a = by (leb k 0x0f) refl
  where
    by : (t : Bool) → leb k 0x0f ≡ t → false ≡ is_destination k
    by true e = let q : k ≤ 0x0f = leb-true k 0x0f e in false-over is_destination 0x00 0x0f tt k (omega arith)
    by false e = let q : 0x0f < k = leb-false k 0x0f e in false-over is_destination kind.const kind.const tt k (omega arith)
