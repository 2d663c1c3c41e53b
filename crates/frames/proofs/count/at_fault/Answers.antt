-- `frames::count::at_fault` meets its contract.
-- Assumes nothing.
use borrow.Author.Tests.{tests}
use native.Mathlib.Omega.{arith}
use Rattle.frames.specs.Order.{at_fault}
use Rattle.frames.proofs.count.at_fault.Goals as goal

pub returns-in-Some-eq1 : goal.returns-in-Some-eq1
unfolding at_fault
returns-in-Some-eq1 c = grind (arith, tests)

pub returns-in_default : goal.returns-in_default
unfolding at_fault
returns-in_default c = grind (arith, tests)

pub returns-in_default-2 : goal.returns-in_default-2
unfolding at_fault
returns-in_default-2 c = grind (arith, tests)
