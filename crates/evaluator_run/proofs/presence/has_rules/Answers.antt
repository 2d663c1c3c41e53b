-- `evaluator_run::presence::has_rules` meets its contract: the records before k have rules, and left the marks that stand.
-- Assumes nothing.
use native.Mathlib.Omega.{arith}
use Rattle.lists.specs.Laws.{record_in}
use Rattle.evaluator_run.specs.Laws.Marks.{marks_begin, marks-next, marks-stop, marks-end}
use Rattle.evaluator_run.proofs.presence.has_rules.Goals as goal

pub loop-k-init : goal.loop-k-init
loop-k-init c = (omega arith, marks_begin _ _ _ _)

pub nth_step-requires : goal.nth_step-requires
nth_step-requires c = record_in c.args.list.now c.loop-k.k c.loop-k-test.true

pub mark_step-requires : goal.mark_step-requires
mark_step-requires c = c.requires

pub returns-then-not-mark_step : goal.returns-then-not-mark_step
returns-then-not-mark_step c = marks-stop _ _ _ _ _ _ c.loop-k.invariant.1 _ c.nth_step.ensures c.mark_step.result _ c.mark_step.ensures c.if-not-mark_step.true c.loop-k-test.true

pub loop-k-smaller : goal.loop-k-smaller
loop-k-smaller c = omega (arith, c.loop-k-test.true)

pub loop-k-preserved : goal.loop-k-preserved
loop-k-preserved c = (omega (arith, c.loop-k-test.true), marks-next _ _ _ _ _ _ c.loop-k.invariant.1 _ c.nth_step.ensures c.mark_step.result _ c.mark_step.ensures c.if-not-mark_step.false)

pub returns : goal.returns
returns c = marks-end _ _ _ _ _ _ c.loop-k.invariant.1 c.loop-k.invariant.0 c.loop-k-test.false
