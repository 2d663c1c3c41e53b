use Rattle.frames.proofs.node.node_size.Goals as goal
use native.Mathlib.Omega.{arith}
-- `frames::node::node_size` meets its contract.
-- Assumes nothing.
use Rattle.frames.specs.Nodes.{node_size}
use Rattle.frames.proofs.Tests.{via}

pub returns-then-carries_literal : goal.returns-then-carries_literal
unfolding node_size
returns-then-carries_literal c = simp (via c.carries_literal.ensures c.if-carries_literal.true)

pub returns-else-carries_literal : goal.returns-else-carries_literal
unfolding node_size
returns-else-carries_literal c = simp (via c.carries_literal.ensures c.if-carries_literal.false) (omega arith)
