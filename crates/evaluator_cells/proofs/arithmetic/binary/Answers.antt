-- `evaluator_cells::arithmetic::binary` meets its contract.
-- Assumes nothing.
use borrow.Author.Tests.{ne_eqb}
use Rattle.evaluator_cells.specs.Numbers.{binary_no}
use Rattle.evaluator_cells.proofs.arithmetic.binary.Goals as goal

pub returns-in-1 : goal.returns-in-1
unfolding binary_no
returns-in-1 c = rw c.in-1.is c.plus.ensures

pub returns-in-2 : goal.returns-in-2
unfolding binary_no
returns-in-2 c = rw c.in-2.is c.minus.ensures

pub returns-in_default : goal.returns-in_default
unfolding binary_no
returns-in_default c = simp (ne_eqb _ _ c.in_default.in_default-own.rest.0.1, ne_eqb _ _ c.in_default.in_default-own.rest.1) c.times.ensures
