-- `step_dimensions::rule::is_destination` meets its contract: on each range that the code tells apart the answer is one, by a test that antt computes.
-- Assumes nothing.
use native.Mathlib.Omega.{arith}
use Rattle.kinds.specs.Range.{within, true-over, false-over}
use Rattle.step_dimensions.specs.Rules.{is_destination}
use Rattle.step_dimensions.specs.Laws.Kinds.{not_low}
use Rattle.step_dimensions.proofs.rule.is_destination.Goals as goal

pub returns-in-16 : goal.returns-in-16
unfolding is_destination within
returns-in-16 c = true-over is_destination 0x10 0x10 tt c.args.kind (omega arith)

pub returns-in-16-2 : goal.returns-in-16-2
unfolding is_destination within
returns-in-16-2 c = true-over is_destination 0x12 0x13 tt c.args.kind (omega arith)

pub returns-in-16-3 : goal.returns-in-16-3
unfolding is_destination within
returns-in-16-3 c = true-over is_destination 0x20 0x22 tt c.args.kind (omega arith)

pub returns-in_default : goal.returns-in_default
returns-in_default c = not_low c.args.kind (omega arith) (omega arith)

pub returns-in_default-2 : goal.returns-in_default-2
unfolding is_destination within
returns-in_default-2 c = false-over is_destination 0x14 0x1f tt c.args.kind (omega arith)

pub returns-in_default-3 : goal.returns-in_default-3
unfolding is_destination within
returns-in_default-3 c = false-over is_destination 0x23 0xff tt c.args.kind (omega arith)
