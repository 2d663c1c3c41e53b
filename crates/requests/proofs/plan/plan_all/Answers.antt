-- `requests::plan::plan_all` meets its contract: the first k requests gave the jobs and marks that stand in the tables.
-- Assumes nothing.
use native.Mathlib.Omega.{arith}
use Rattle.std.proofs.lemmas.Result.{err_from_is_err_and}
use Rattle.requests.proofs.Plans.{begin, one-asks, advance, stopped, finish}
use Rattle.requests.proofs.plan.plan_all.Goals as goal

pub loop-k-init : goal.loop-k-init
loop-k-init c = λ b A a. (omega arith, begin _ _ b A a)

pub plan_request-requires : goal.plan_request-requires
plan_request-requires c = let P = c.requires in (P.0, P.1, one-asks _ _ P.0 P.1 P.2 (c.loop-k.invariant P.0 P.1 P.2).1 c.loop-k-test.true)

pub loop-k-smaller : goal.loop-k-smaller
loop-k-smaller c = omega (arith, c.loop-k-test.true)

pub loop-k-preserved : goal.loop-k-preserved
loop-k-preserved c = λ b A a. (omega (arith, c.loop-k-test.true), advance _ _ b A a (c.loop-k.invariant b A a).1 c.loop-k-test.true _ _ c.plan_request.result (c.plan_request.ensures b A (one-asks _ _ b A a (c.loop-k.invariant b A a).1 c.loop-k-test.true)) c.in_ok-n.was)

pub returns : goal.returns
returns c = λ b A a. finish _ _ b A a (c.loop-k.invariant b A a).1 (c.loop-k.invariant b A a).0 c.loop-k-test.false

pub returns-in_err-n : goal.returns-in_err-n
returns-in_err-n c = λ b A a. let p = err_from_is_err_and c.from_residual.result c.from_residual.ensures.1 in rw (p.1, p.2) (stopped _ _ b A a (c.loop-k.invariant b A a).1 c.loop-k-test.true _ _ c.plan_request.result (c.plan_request.ensures b A (one-asks _ _ b A a (c.loop-k.invariant b A a).1 c.loop-k-test.true)) c.in_err-n.was)
