-- `kinds::kind::Kind::takes_i64` meets its contract: on each range that the code tells apart the answer is one, by a test that antt computes.
-- Assumes nothing.
use native.Mathlib.Omega.{arith}
use Rattle.kinds.specs.Range.{within, true-over, false-over}
use Rattle.kinds.specs.Kinds.{takes_i64}
use Rattle.kinds.proofs.kind.Kind.takes_i64.Goals as goal

pub returns-in-5-to-6 : goal.returns-in-5-to-6
unfolding takes_i64 within
returns-in-5-to-6 c = true-over takes_i64 0x05 0x06 tt c.args.kind (omega arith)

pub returns-in_default : goal.returns-in_default
unfolding takes_i64 within
returns-in_default c = false-over takes_i64 0x00 0x04 tt c.args.kind (omega arith)

pub returns-in_default-2 : goal.returns-in_default-2
unfolding takes_i64 within
returns-in_default-2 c = false-over takes_i64 0x07 0xff tt c.args.kind (omega arith)
