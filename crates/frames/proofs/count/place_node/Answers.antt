-- `frames::count::place_node` meets its contract.
-- Assumes nothing.
use borrow.Author.Tests.{tests}
use native.Mathlib.Omega.{arith}
use Rattle.frames.specs.Order.{place_node}
use Rattle.frames.proofs.count.place_node.Goals as goal

pub returns-then-c-ne0 : goal.returns-then-c-ne0
unfolding place_node
returns-then-c-ne0 c = grind (arith, tests)

pub returns-then-c-ge-NODE_LIMIT : goal.returns-then-c-ge-NODE_LIMIT
unfolding place_node
returns-then-c-ge-NODE_LIMIT c = grind (arith, tests)

pub returns : goal.returns
unfolding place_node
returns c = grind (arith, tests)
