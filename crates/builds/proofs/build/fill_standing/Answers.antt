-- `builds::build::fill_standing` meets its contract: the cells of the blocks before k are noted.
-- Assumes nothing.
use native.Mathlib.Omega.{arith}
use Rattle.builds.proofs.Turns.{none-noted, one-noted, all_noted}
use Rattle.builds.proofs.build.fill_standing.Goals as goal

pub loop-k-init : goal.loop-k-init
loop-k-init c = none-noted _ _ _

pub offset_bounds-blocks-k : goal.offset_bounds-blocks-k
offset_bounds-blocks-k c = omega (arith, c.loop-k-test.true, c.requires)

pub bounds-blocks-k : goal.bounds-blocks-k
bounds-blocks-k c = omega (arith, c.loop-k-test.true, c.requires)

pub bounds-standing-cell : goal.bounds-standing-cell
bounds-standing-cell c = omega (arith, c.cell_of-cell.ensures)

pub loop-k-smaller : goal.loop-k-smaller
loop-k-smaller c = omega (arith, c.loop-k-test.true)

pub loop-k-preserved : goal.loop-k-preserved
loop-k-preserved c = one-noted c.loop-k.invariant c.loop-k-test.true c.cell_of-cell.ensures

pub returns : goal.returns
returns c = all_noted c.loop-k.invariant c.loop-k-test.false
