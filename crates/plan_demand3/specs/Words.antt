-- WHAT A RULE SAYS: the kind and the number that are packed in it, where they and the dimension are of two bytes. Assumes nothing.
use Rattle.std.specs.Prelude.{ℕ, ◌+◌, ◌*◌, ◌/◌, ◌%◌, ◌<◌, ◌≡◌, refl, Bool, true, false, cond, eqb}
use Rattle.std.proofs.Math.Option.{none, some, none-ne-some}
use native.Mathlib.Omega.{arith}
use Rattle.std.proofs.Common.{eqb-true}
use Rattle.plan_tables.specs.Tables.{packed}
use Rattle.fixing.specs.ProverCode.{rule_kind, rule_id, id_where}

module _ (k i d : ℕ) (hi : i < 0x10000) (hd : d < 0x10000) where
  pub kind-packed : rule_kind (packed k i d) ≡ k
  unfolding rule_kind
  kind-packed = let z : (k * 0x100000000 + i * 0x10000 + d) / 0x100000000 ≡ k = omega arith in z

  pub id-packed : rule_id (packed k i d) ≡ i
  unfolding rule_id
  id-packed = let z : (k * 0x100000000 + i * 0x10000 + d) / 0x10000 % 0x10000 ≡ i = omega arith in z

-- no rule is of kind 0
pub kind-none : rule_kind 0 ≡ 0
unfolding rule_kind
kind-none = omega arith

some_same : (a c : ℕ) → some a ≡ some c → a ≡ c
some_same a c h = cc

-- where there is a number of a kind, the rule has that kind and that number
pub where_some : (k w c : ℕ) → id_where k w ≡ some c → (rule_kind w ≡ k) × (rule_id w ≡ c)
where_some k w c h = by (eqb (rule_kind w) k) refl h
  where
    by : (t : Bool) → eqb (rule_kind w) k ≡ t → cond t (some (rule_id w)) none ≡ some c → (rule_kind w ≡ k) × (rule_id w ≡ c)
    by true p q = (eqb-true (rule_kind w) k p, some_same (rule_id w) c q)
    by false p q = absurd (none-ne-some c q)
