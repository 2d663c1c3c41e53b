-- `context::load::load_marks` meets its contract: the marks below `cell` are copied.
-- Assumes nothing.
use native.Mathlib.Omega.{arith}
use Rattle.context.proofs.Copies.{nothing_written, mark-read, marks-read}
use Rattle.context.proofs.load.load_marks.Goals as goal

pub loop-cell-init : goal.loop-cell-init
loop-cell-init c = (omega arith, nothing_written _ _)

pub overflow_add-marks : goal.overflow_add-marks
overflow_add-marks c = omega (arith, c.requires)

pub bounds-context-cell : goal.bounds-context-cell
bounds-context-cell c = omega (arith, c.requires)

pub bounds-marks-cell : goal.bounds-marks-cell
bounds-marks-cell c = omega (arith, c.requires)

pub loop-cell-smaller : goal.loop-cell-smaller
loop-cell-smaller c = omega (arith, c.requires)

pub loop-cell-preserved : goal.loop-cell-preserved
loop-cell-preserved c = (omega arith, mark-read c.args.context.now _ _ _ c.requires.size c.loop-cell-test.true c.loop-cell.invariant.1)

pub returns : goal.returns
returns c = marks-read c.args.context.now _ _ _ c.requires.size c.requires.full c.loop-cell.invariant.0 c.loop-cell-test.false c.loop-cell.invariant.1
