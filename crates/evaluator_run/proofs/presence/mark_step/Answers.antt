-- `evaluator_run::presence::mark_step` meets its contract.
-- Assumes nothing.
use native.Mathlib.Omega.{arith}
use Rattle.evaluator_run.specs.Laws.Marks.{mark-no-value, mark_unwritable, mark_made}
use Rattle.evaluator_run.proofs.presence.mark_step.Goals as goal

pub returns-then-not-has_sources : goal.returns-then-not-has_sources
returns-then-not-has_sources c = mark-no-value _ _ _ c.args.s _ c.has_sources.ensures c.if-not-has_sources.true

pub bounds-seen-at : goal.bounds-seen-at
bounds-seen-at c = omega (arith, c.slot-at.ensures.small)

pub returns-then-is_writable : goal.returns-then-is_writable
returns-then-is_writable c = mark_made _ _ _ c.args.s _ c.has_sources.ensures c.if-not-has_sources.false _ c.is_writable.ensures c.if-is_writable.true _ c.slot-at.ensures.is

pub returns : goal.returns
returns c = mark_unwritable _ _ _ c.args.s _ c.has_sources.ensures c.if-not-has_sources.false _ c.is_writable.ensures c.if-is_writable.false
