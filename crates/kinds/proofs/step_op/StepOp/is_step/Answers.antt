-- `kinds::step_op::StepOp::is_step` meets its contract: copy is told apart, and the others are a range.
-- Assumes nothing.
use native.Mathlib.Omega.{arith}
use borrow.Author.Tests.{ne_eqb}
use Rattle.kinds.specs.Range.{within, true-over, false-over, within-above}
use Rattle.kinds.specs.StepOps.{is_step}
use Rattle.kinds.proofs.step_op.StepOp.is_step.Goals as goal

pub returns-in-8 : goal.returns-in-8
unfolding is_step within
returns-in-8 c = true-over is_step 0x08 0x08 tt c.args.op (omega arith)

pub returns-in-1-to-4 : goal.returns-in-1-to-4
unfolding is_step within
returns-in-1-to-4 c = true-over is_step 0x01 0x04 tt c.args.op (omega arith)

pub returns-in_default : goal.returns-in_default
unfolding is_step within
returns-in_default c = false-over is_step 0x00 0x00 tt c.args.op (omega arith)

pub returns-in_default-2 : goal.returns-in_default-2
unfolding is_step
returns-in_default-2 c = simp (ne_eqb _ _ c.in_default.in_default-own.rest.1, within-above 0x01 0x04 c.args.op (omega arith))
