-- `frames::rest::expression_frame` meets its contract.
-- Assumes nothing.
use borrow.Author.Tests.{tests}
use native.Mathlib.Omega.{arith}
use Rattle.frames.specs.Rest.{expression_of, expression_ok, expression_from}
use Rattle.frames.proofs.rest.expression_frame.Goals as goal

pub returns-then-f-ne-EXPRESSION_SIZE : goal.returns-then-f-ne-EXPRESSION_SIZE
unfolding expression_of expression_ok expression_from
returns-then-f-ne-EXPRESSION_SIZE c = grind (arith, tests)

pub returns : goal.returns
unfolding expression_of expression_ok expression_from
returns c = grind (arith, tests)
