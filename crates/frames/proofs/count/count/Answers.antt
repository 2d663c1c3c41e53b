-- `frames::count::count` meets its contract.
-- Assumes nothing.
use Rattle.frames.specs.Order.{count_of}
use Rattle.frames.proofs.count.count.Goals as goal

pub returns : goal.returns
unfolding count_of
returns c = rw (← c.frame_of.ensures) c.placed.ensures
