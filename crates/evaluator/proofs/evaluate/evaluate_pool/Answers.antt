-- `evaluator::evaluate::evaluate_pool` meets its contract: what was computed, told.
-- Assumes nothing.
use native.Mathlib.Omega.{arith}
use mathlib.Core.Path.{◌≡◌, refl}
use Rattle.std.specs.Prelude.{Ok, Err}
use Rattle.std.proofs.lemmas.Result.{err_from_is_err_and}
use Rattle.evaluator.specs.Laws.Evaluates.{fill-asks, compute-asks, pool-told, told_as}
use Rattle.evaluator.proofs.evaluate.evaluate_pool.Goals as goal

pub fill_numbers-requires : goal.fill_numbers-requires
fill_numbers-requires c = fill-asks c.requires _ refl

pub compute-requires : goal.compute-requires
compute-requires c = compute-asks c.requires c.fill_numbers.ensures

pub returns-in_err-written : goal.returns-in_err-written
returns-in_err-written c = let p = err_from_is_err_and c.from_residual.result c.from_residual.ensures.1 in rw (p.1, p.2) (pool-told c.requires c.fill_numbers.ensures c.compute.ensures (told_as (let o : c.compute.result ≡ Err c.in_err-written.field-0.0 = grind arith in o) refl))

pub returns : goal.returns
returns c = pool-told c.requires c.fill_numbers.ensures c.compute.ensures (told_as (let o : c.compute.result ≡ Ok c.in_ok-written.written = grind arith in o) refl)
