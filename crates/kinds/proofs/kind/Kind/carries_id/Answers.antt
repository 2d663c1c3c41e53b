-- `kinds::kind::Kind::carries_id` meets its contract: on each range that the code tells apart the answer is one, by a test that antt computes.
-- Assumes nothing.
use native.Mathlib.Omega.{arith}
use Rattle.kinds.specs.Range.{within, true-over, false-over}
use Rattle.kinds.specs.Kinds.{carries_id}
use Rattle.kinds.proofs.kind.Kind.carries_id.Goals as goal

pub returns-in-16-to-19 : goal.returns-in-16-to-19
unfolding carries_id within
returns-in-16-to-19 c = true-over carries_id 0x10 0x13 tt c.args.kind (omega arith)

pub returns-in-21-to-23 : goal.returns-in-21-to-23
unfolding carries_id within
returns-in-21-to-23 c = true-over carries_id 0x15 0x17 tt c.args.kind (omega arith)

pub returns-in_default : goal.returns-in_default
unfolding carries_id within
returns-in_default c = false-over carries_id 0x00 0x0f tt c.args.kind (omega arith)

pub returns-in_default-2 : goal.returns-in_default-2
unfolding carries_id within
returns-in_default-2 c = false-over carries_id 0x14 0x14 tt c.args.kind (omega arith)

pub returns-in_default-3 : goal.returns-in_default-3
unfolding carries_id within
returns-in_default-3 c = false-over carries_id 0x18 0xff tt c.args.kind (omega arith)
