-- `frames::node::u64_at` meets its contract.
-- Assumes nothing.
use Rattle.frames.specs.Nodes.{u64_at}
use borrow.Author.Rules.{rules}
use Rattle.frames.proofs.node.u64_at.Goals as goal

pub returns : goal.returns
unfolding u64_at
returns c = search rules
