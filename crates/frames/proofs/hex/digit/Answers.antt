-- `frames::hex::digit` meets its contract.
-- Assumes nothing.
use native.Mathlib.Omega.{arith}
use borrow.Author.Tests.{le-leb, lt-leb}
use Rattle.frames.specs.Lines.{digit_of}
use Rattle.frames.proofs.Digits.{digit_low, digit-high}
use Rattle.frames.proofs.hex.digit.Goals as goal

pub overflow_sub-result : goal.overflow_sub-result
overflow_sub-result c = omega (arith, digit_low _ c.requires c.if-b-le57.true)

pub overflow_sub-result-else-b-le57 : goal.overflow_sub-result-else-b-le57
overflow_sub-result-else-b-le57 c = omega (arith, digit-high _ c.requires c.if-b-le57.false)

pub returns-then-b-le57 : goal.returns-then-b-le57
unfolding digit_of
returns-then-b-le57 c = simp (le-leb _ _ c.if-b-le57.true)

pub returns-else-b-le57 : goal.returns-else-b-le57
unfolding digit_of
returns-else-b-le57 c = simp (lt-leb _ _ c.if-b-le57.false) (omega (arith, digit-high _ c.requires c.if-b-le57.false))
