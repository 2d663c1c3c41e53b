-- `pool_frames::frame::node_size` meets its contract.
-- Assumes nothing.
use Rattle.pool_frames.proofs.Parts.{size-with, size-without}
use Rattle.pool_frames.proofs.frame.node_size.Goals as goal

pub returns-then-carries_literal : goal.returns-then-carries_literal
returns-then-carries_literal c = size-with _ _ c.carries_literal.ensures c.if-carries_literal.true _ c.children_size-head.ensures

pub returns-else-carries_literal : goal.returns-else-carries_literal
returns-else-carries_literal c = size-without _ _ c.carries_literal.ensures c.if-carries_literal.false _ c.children_size-head.ensures
