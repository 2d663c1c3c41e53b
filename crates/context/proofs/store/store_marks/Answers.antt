-- `context::store::store_marks` meets its contract: the marks below `cell` are copied.
-- Assumes nothing.
use mathlib.Core.Path.{refl}
use native.Mathlib.Omega.{arith}
use lib.ListN.{length-set}
use Rattle.context.proofs.Copies.{nothing_written, mark-written, marks-written}
use Rattle.context.proofs.store.store_marks.Goals as goal

pub loop-cell-init : goal.loop-cell-init
loop-cell-init c = (omega arith, refl, nothing_written _ _)

pub bounds-marks-cell : goal.bounds-marks-cell
bounds-marks-cell c = omega (arith, c.requires)

pub overflow_add-context : goal.overflow_add-context
overflow_add-context c = omega (arith, c.requires)

pub bounds-context-cell : goal.bounds-context-cell
bounds-context-cell c = omega (arith, c.requires)

pub loop-cell-smaller : goal.loop-cell-smaller
loop-cell-smaller c = omega (arith, c.requires)

pub loop-cell-preserved : goal.loop-cell-preserved
loop-cell-preserved c = (omega arith, simp length-set c.loop-cell.invariant.1, mark-written _ _ _ _ c.requires.full c.loop-cell-test.true c.loop-cell.invariant.2)

pub shape_of-context : goal.shape_of-context
shape_of-context c = omega (arith, c.requires)

pub returns : goal.returns
returns c = marks-written _ _ _ _ c.requires.full c.loop-cell-test.false c.loop-cell.invariant.2
