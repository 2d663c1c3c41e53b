-- `frames::node::literal_ok` meets its contract.
-- Assumes nothing.
use borrow.Author.Tests.{tests}
use native.Mathlib.Omega.{arith}
use Rattle.frames.specs.Nodes.{literal_ok}
use Rattle.frames.proofs.node.literal_ok.Goals as goal

pub returns-then-sign-le1 : goal.returns-then-sign-le1
unfolding literal_ok
returns-then-sign-le1 c = grind (arith, tests)

pub returns-else-sign-le1 : goal.returns-else-sign-le1
unfolding literal_ok
returns-else-sign-le1 c = grind (arith, tests)
