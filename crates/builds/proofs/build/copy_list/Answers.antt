-- `builds::build::copy_list` meets its contract.
-- Assumes nothing.
use Rattle.builds.proofs.Built.{room-built, list-built}
use Rattle.builds.proofs.build.copy_list.Goals as goal

pub copy_taken-requires : goal.copy_taken-requires
copy_taken-requires c = room-built _ _ _ _ _ c.fill_standing.ensures c.requires.blocks.expressions c.requires

pub returns : goal.returns
returns c = list-built _ _ _ _ _ c.fill_standing.ensures c.requires.blocks.expressions _ _ c.copy_taken.ensures
