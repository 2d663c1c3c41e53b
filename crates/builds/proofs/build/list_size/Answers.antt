-- `builds::build::list_size` meets its contract.
-- Assumes nothing.
use Rattle.builds.proofs.Built.{size-built}
use Rattle.builds.proofs.build.list_size.Goals as goal

pub returns : goal.returns
returns c = size-built _ _ _ _ _ c.fill_standing.ensures c.requires.expressions c.count_taken.ensures
