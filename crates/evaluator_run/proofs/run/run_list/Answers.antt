-- `evaluator_run::run::run_list` meets its contract: the records before k were run, to the table that stands.
-- Assumes nothing.
use mathlib.Core.Path.{sym, ap, ◌∙◌}
use Rattle.std.proofs.lemmas.Result.{err_from_is_err_and}
use Rattle.evaluator_step.specs.Machine.{ran_to}
use native.Mathlib.Omega.{arith}
use Rattle.lists.specs.Laws.{record_in}
use Rattle.evaluator_step.specs.Laws.Steps.{kept_step}
use Rattle.evaluator_run.specs.Laws.Runs.{told-cells, run_begins, run-goes-on, run-stops, run_ends}
use Rattle.evaluator_run.proofs.run.run_list.Goals as goal

pub loop-k-init : goal.loop-k-init
loop-k-init c = (omega arith, c.requires.2, run_begins _ _ _ _ _)

pub nth_step-requires : goal.nth_step-requires
nth_step-requires c = record_in c.args.list.now c.loop-k.k c.loop-k-test.true

pub run_step-requires : goal.run_step-requires
run_step-requires c = (c.requires.0, c.requires.1, c.loop-k.invariant.1)

pub loop-k-smaller : goal.loop-k-smaller
loop-k-smaller c = omega (arith, c.loop-k-test.true)

pub loop-k-preserved : goal.loop-k-preserved
loop-k-preserved c = (omega (arith, c.loop-k-test.true), kept_step _ _ c.requires.0.modulus c.requires.1 _ _ c.loop-k.invariant.1 _ _ (sym (told-cells c.run_step.result _ _ c.run_step.ensures _ c.in_ok-run_step.was)), run-goes-on _ _ _ _ _ _ _ c.loop-k.invariant.2 _ c.nth_step.ensures _ (told-cells c.run_step.result _ _ c.run_step.ensures _ c.in_ok-run_step.was))

pub returns : goal.returns
returns c = run_ends _ _ _ _ _ _ _ c.loop-k.invariant.2 c.loop-k.invariant.0 c.loop-k-test.false

pub returns-in_err-run_step : goal.returns-in_err-run_step
returns-in_err-run_step c = let p = err_from_is_err_and c.from_residual.result c.from_residual.ensures.1 in rw (p.1, p.2) (run-stops _ _ _ _ _ _ _ c.loop-k.invariant.2 _ c.nth_step.ensures (Unit {0}) (Unit {0}) _ _ (sym (ap (λ r. ran_to r c.run_step.new.cells) c.in_err-run_step.was) ∙ c.run_step.ensures) c.loop-k-test.true)
