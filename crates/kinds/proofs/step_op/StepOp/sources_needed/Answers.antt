-- `kinds::step_op::StepOp::sources_needed` meets its contract: copy and muladd are told apart, and the others are a range.
-- Assumes nothing.
use native.Mathlib.Omega.{arith}
use borrow.Author.Tests.{ne_eqb}
use Rattle.kinds.specs.Range.{within, value-over, within-above}
use Rattle.kinds.specs.StepOps.{sources_needed}
use Rattle.kinds.proofs.step_op.StepOp.sources_needed.Goals as goal

pub returns-in-8 : goal.returns-in-8
unfolding sources_needed within
returns-in-8 c = value-over sources_needed 1 0x08 0x08 tt c.args.op (omega arith)

pub returns-in-4 : goal.returns-in-4
unfolding sources_needed within
returns-in-4 c = value-over sources_needed 3 0x04 0x04 tt c.args.op (omega arith)

pub returns-in-1-to-3 : goal.returns-in-1-to-3
unfolding sources_needed within
returns-in-1-to-3 c = value-over sources_needed 2 0x01 0x03 tt c.args.op (omega arith)

pub returns-in_default : goal.returns-in_default
unfolding sources_needed within
returns-in_default c = value-over sources_needed 0 0x00 0x00 tt c.args.op (omega arith)

pub returns-in_default-2 : goal.returns-in_default-2
unfolding sources_needed
returns-in_default-2 c = simp (ne_eqb _ _ c.in_default.in_default-own.rest.0.1, ne_eqb _ _ c.in_default.in_default-own.rest.1, within-above 0x01 0x03 c.args.op (omega arith))
