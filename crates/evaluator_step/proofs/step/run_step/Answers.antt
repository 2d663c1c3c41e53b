-- `evaluator_step::step::run_step` meets its contract: each way through the code is one law of specs/Laws/Steps.antt.
-- Assumes nothing.
use Rattle.evaluator_step.specs.Laws.Steps.{step-no-value, step-stores, step_unwritable}
use Rattle.evaluator_step.proofs.step.run_step.Goals as goal

pub value-requires : goal.value-requires
value-requires c = c.requires

pub returns-in_default : goal.returns-in_default
returns-in_default c = step-no-value _ _ _ _ _ c.value.result (c.value.ensures) c.in_default.is

pub store-requires : goal.store-requires
store-requires c = record { chained = c.requires.2.chained; size = c.requires.2.size }

pub returns-then-is_writable : goal.returns-then-is_writable
returns-then-is_writable c = step-stores _ _ _ _ c.args.s _ c.value.result (c.value.ensures) c.in-Some.is _ _ _ c.is_writable.ensures c.if-is_writable.true c.place.ensures c.store.ensures

pub returns : goal.returns
returns c = step_unwritable _ _ _ _ c.args.s _ c.value.result (c.value.ensures) c.in-Some.is _ c.is_writable.ensures c.if-is_writable.false
