-- `kinds::kind::Kind::is_leaf` meets its contract: on each range that the code tells apart the answer is one, by a test that antt computes.
-- Assumes nothing.
use native.Mathlib.Omega.{arith}
use Rattle.kinds.specs.Range.{within, true-over, false-over}
use Rattle.kinds.specs.Kinds.{is_leaf}
use Rattle.kinds.proofs.kind.Kind.is_leaf.Goals as goal

pub returns-in-16-to-26 : goal.returns-in-16-to-26
unfolding is_leaf within
returns-in-16-to-26 c = true-over is_leaf 0x10 0x1a tt c.args.kind (omega arith)

pub returns-in_default : goal.returns-in_default
unfolding is_leaf within
returns-in_default c = false-over is_leaf 0x00 0x0f tt c.args.kind (omega arith)

pub returns-in_default-2 : goal.returns-in_default-2
unfolding is_leaf within
returns-in_default-2 c = false-over is_leaf 0x1b 0xff tt c.args.kind (omega arith)
