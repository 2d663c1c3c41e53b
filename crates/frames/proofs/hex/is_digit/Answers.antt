-- `frames::hex::is_digit` meets its contract.
-- Assumes nothing.
use borrow.Author.Tests.{tests}
use native.Mathlib.Omega.{arith}
use Rattle.kinds.specs.Range.{within}
use Rattle.frames.specs.Lines.{is_digit}
use Rattle.frames.proofs.hex.is_digit.Goals as goal

pub returns-in-48-to-57 : goal.returns-in-48-to-57
unfolding is_digit within
returns-in-48-to-57 c = grind (arith, tests)

pub returns-in-48-to-57-2 : goal.returns-in-48-to-57-2
unfolding is_digit within
returns-in-48-to-57-2 c = grind (arith, tests)

pub returns-in_default : goal.returns-in_default
unfolding is_digit within
returns-in_default c = grind (arith, tests)

pub returns-in_default-2 : goal.returns-in_default-2
unfolding is_digit within
returns-in_default-2 c = grind (arith, tests)

pub returns-in_default-3 : goal.returns-in_default-3
unfolding is_digit within
returns-in_default-3 c = grind (arith, tests)
