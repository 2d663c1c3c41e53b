-- `evaluator_cells::cells::is_writable` meets its contract: on each range of bytes that the code tells apart the answer is one.
-- Assumes nothing.
use native.Mathlib.Omega.{arith}
use Rattle.kinds.specs.Range.{true-over, false-over}
use Rattle.evaluator_cells.specs.Cells.{writable_no}
use Rattle.evaluator_cells.specs.Laws.Keys.{not-writable-low, not-writable-past}
use Rattle.evaluator_cells.proofs.cells.is_writable.Goals as goal

pub returns-in-32 : goal.returns-in-32
unfolding writable_no
returns-in-32 c = true-over writable_no 0x20 0x22 tt c.args.kind (omega arith)

pub returns-in_default : goal.returns-in_default
returns-in_default c = not-writable-low c.args.kind (omega arith) c.in_default.in_default-own.rest.1

pub returns-in_default-2 : goal.returns-in_default-2
unfolding writable_no
returns-in_default-2 c = false-over writable_no 0x14 0x1f tt c.args.kind (omega arith)

pub returns-in_default-3 : goal.returns-in_default-3
returns-in_default-3 c = not-writable-past c.args.kind (omega arith)

pub returns-in-16 : goal.returns-in-16
unfolding writable_no
returns-in-16 c = true-over writable_no 0x10 0x10 tt c.args.kind (omega arith)

pub returns-in-16-2 : goal.returns-in-16-2
unfolding writable_no
returns-in-16-2 c = true-over writable_no 0x12 0x13 tt c.args.kind (omega arith)
