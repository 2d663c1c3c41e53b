-- `frames::count::place_expression` meets its contract.
-- Assumes nothing.
use borrow.Author.Tests.{tests}
use native.Mathlib.Omega.{arith}
use Rattle.frames.specs.Order.{place_expression}
use Rattle.frames.proofs.count.place_expression.Goals as goal

pub returns-then-c-ne0 : goal.returns-then-c-ne0
unfolding place_expression
returns-then-c-ne0 c = grind (arith, tests)

pub returns-then-c-ge-EXPRESSION_LIMIT : goal.returns-then-c-ge-EXPRESSION_LIMIT
unfolding place_expression
returns-then-c-ge-EXPRESSION_LIMIT c = grind (arith, tests)

pub returns : goal.returns
unfolding place_expression
returns c = grind (arith, tests)
