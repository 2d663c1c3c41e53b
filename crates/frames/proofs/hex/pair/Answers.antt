-- `frames::hex::pair` meets its contract.
-- Assumes nothing.
use native.Mathlib.Omega.{arith}
use Rattle.frames.proofs.Digits.{digit-small}
use Rattle.frames.proofs.hex.pair.Goals as goal

pub overflow_mul-result : goal.overflow_mul-result
overflow_mul-result c = omega (arith, c.digit.ensures, digit-small _ c.requires.0)

pub overflow_add-result : goal.overflow_add-result
overflow_add-result c = omega (arith, c.digit.ensures, c.digit-2.ensures, digit-small _ c.requires.0, digit-small _ c.requires.1)
