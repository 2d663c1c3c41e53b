-- `frames::node::child_of` meets its contract.
-- Assumes nothing.
use borrow.Author.Tests.{lt-ltb, le-ltb}
use Rattle.frames.specs.Nodes.{child_of}
use Rattle.frames.proofs.node.child_of.Goals as goal

pub returns-then-k-count : goal.returns-then-k-count
unfolding child_of
returns-then-k-count c = simp (lt-ltb _ _ c.if-k-count.true) c.u16_at.ensures

pub returns-else-k-count : goal.returns-else-k-count
unfolding child_of
returns-else-k-count c = simp (le-ltb _ _ c.if-k-count.false)
