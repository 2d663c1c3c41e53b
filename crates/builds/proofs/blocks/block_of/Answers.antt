-- `builds::blocks::block_of` meets its contract.
-- Assumes nothing.
use Rattle.builds.proofs.blocks.block_of.Goals as goal

pub returns : goal.returns
returns c = rw (c.cell_of-cell.ensures, c.steps_of.ensures)
