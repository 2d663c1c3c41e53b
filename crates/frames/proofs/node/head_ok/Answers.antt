-- `frames::node::head_ok` meets its contract.
-- Assumes nothing.
use borrow.Author.Tests.{tests}
use native.Mathlib.Omega.{arith}
use Rattle.frames.specs.Nodes.{head_ok}
use Rattle.frames.proofs.node.head_ok.Goals as goal

pub returns-then-carries_id : goal.returns-then-carries_id
unfolding head_ok
returns-then-carries_id c = grind (arith, tests)

pub returns-else-carries_id : goal.returns-else-carries_id
unfolding head_ok
returns-else-carries_id c = grind (arith, tests)

pub returns-else-next-le1 : goal.returns-else-next-le1
unfolding head_ok
returns-else-next-le1 c = grind (arith, tests)
