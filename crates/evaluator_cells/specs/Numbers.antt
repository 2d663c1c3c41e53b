-- Numbers modulo m, and what the code asks of them.
-- Assumes nothing: these are definitions.
use Rattle.std.specs.Prelude.{ℕ, ◌+◌, ◌*◌, ◌-◌, ◌%◌, ◌<◌, ◌≤◌, cond, eqb}
use Rattle.kinds.specs.OpBytes as op

pub record Modulus (m : ℕ) : Type 0 where
  pub from : 2 ≤ m
  pub small : m < 0x100000000

pub record Residues (a b m : ℕ) : Type 0 where
  pub small : m < 0x100000000
  pub first : a < m
  pub second : b < m

pub record FusedAsks (a b c m : ℕ) : Type 0 where
  pub modulus : Modulus m
  pub first : a < m
  pub second : b < m
  pub third : c < m

-- add, sub, and any other byte as mul
unfoldable pub binary_no : ℕ → ℕ → ℕ → ℕ → ℕ
binary_no m o a b = cond (eqb o op.add) ((a + b) % m) (cond (eqb o op.sub) ((a + (m - b % m)) % m) ((a * b) % m))
