-- `evaluator::evaluate::evaluate_read` meets its contract: each way through the code is one law of specs/Laws/Evaluates.antt.
-- Assumes nothing.
use mathlib.Core.Path.{refl}
use Rattle.std.specs.Prelude.{Err}
use Rattle.std.proofs.lemmas.Result.{err_from_is_err_and}
use Rattle.requests.specs.Admitted.{judged_as}
use Rattle.evaluator.specs.Laws.Evaluates.{ill-formed, pool-refused, pool-admitted}
use Rattle.evaluator.proofs.evaluate.evaluate_read.Goals as goal

pub returns-then-not-is_well_formed : goal.returns-then-not-is_well_formed
returns-then-not-is_well_formed c = rw c.into.ensures (ill-formed _ _ _ c.args.c _ _ _ _ c.is_well_formed.ensures c.if-not-is_well_formed.true)

pub returns-in_err-admit : goal.returns-in_err-admit
returns-in_err-admit c = let p = err_from_is_err_and c.from_residual.result c.from_residual.ensures.1 in rw (p.1, p.2) (pool-refused _ _ _ c.args.c _ _ _ _ c.is_well_formed.ensures c.if-not-is_well_formed.false {r = Err _} (judged_as _ _ c.args.c _ (c.admit.ensures _) refl c.in_err-admit.was) refl)

pub returns : goal.returns
returns c = pool-admitted _ _ _ c.args.c _ _ _ _ c.is_well_formed.ensures c.if-not-is_well_formed.false (judged_as _ _ c.args.c _ (c.admit.ensures _) refl c.in_ok-admit.was) c.evaluate_pool.ensures
