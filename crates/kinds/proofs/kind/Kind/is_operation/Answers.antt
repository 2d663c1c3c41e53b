-- `kinds::kind::Kind::is_operation` meets its contract: on each range that the code tells apart the answer is one, by a test that antt computes.
-- Assumes nothing.
use native.Mathlib.Omega.{arith}
use Rattle.kinds.specs.Range.{within, true-over, false-over}
use Rattle.kinds.specs.Kinds.{is_operation}
use Rattle.kinds.proofs.kind.Kind.is_operation.Goals as goal

pub returns-in-1-to-7 : goal.returns-in-1-to-7
unfolding is_operation within
returns-in-1-to-7 c = true-over is_operation 0x01 0x07 tt c.args.kind (omega arith)

pub returns-in_default : goal.returns-in_default
unfolding is_operation within
returns-in_default c = false-over is_operation 0x00 0x00 tt c.args.kind (omega arith)

pub returns-in_default-2 : goal.returns-in_default-2
unfolding is_operation within
returns-in_default-2 c = false-over is_operation 0x08 0xff tt c.args.kind (omega arith)
