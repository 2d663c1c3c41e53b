-- `requests::generate::generate` meets its contract: each need is one lemma of proofs/Generates.antt.
-- Assumes nothing.
use native.Mathlib.Omega.{arith}
use mathlib.Core.Path.{refl, sym, ◌∙◌}
use Rattle.std.proofs.lemmas.Result.{err_from_is_err_and}
use Rattle.requests.proofs.Generates.{planned, stopped, jobs-ask, fit-asks, room, makes, overflows}
use Rattle.requests.proofs.generate.generate.Goals as goal

pub plan_all-requires : goal.plan_all-requires
plan_all-requires c = (c.requires.0, c.requires.1, c.requires.2.plan)

pub jobs_fit-requires : goal.jobs_fit-requires
jobs_fit-requires c = (c.requires.0, (planned _ _ _ _ c.plan_all.result (c.plan_all.ensures c.requires.0 c.requires.1 c.requires.2.plan) c.in_ok-n.was).jobs, fit-asks _ _ c.requires.0 c.requires.1 c.requires.2 (planned _ _ _ _ c.plan_all.result (c.plan_all.ensures c.requires.0 c.requires.1 c.requires.2.plan) c.in_ok-n.was))

pub returns-then-not-jobs_fit : goal.returns-then-not-jobs_fit
returns-then-not-jobs_fit c = λ b A a. rw c.into.ensures (overflows _ _ b A a (planned _ _ _ _ c.plan_all.result (c.plan_all.ensures b A a.plan) c.in_ok-n.was) _ (sym (c.jobs_fit.ensures b (planned _ _ _ _ c.plan_all.result (c.plan_all.ensures b A a.plan) c.in_ok-n.was).jobs (fit-asks _ _ b A a (planned _ _ _ _ c.plan_all.result (c.plan_all.ensures b A a.plan) c.in_ok-n.was))) ∙ c.if-not-jobs_fit.true))

pub make_counted-end-requires : goal.make_counted-end-requires
make_counted-end-requires c = (c.requires.0, (planned _ _ _ _ c.plan_all.result (c.plan_all.ensures c.requires.0 c.requires.1 c.requires.2.plan) c.in_ok-n.was).jobs, jobs-ask _ _ c.requires.0 c.requires.1 c.requires.2 (planned _ _ _ _ c.plan_all.result (c.plan_all.ensures c.requires.0 c.requires.1 c.requires.2.plan) c.in_ok-n.was), room _ _ c.requires.0 c.requires.1 c.requires.2 (planned _ _ _ _ c.plan_all.result (c.plan_all.ensures c.requires.0 c.requires.1 c.requires.2.plan) c.in_ok-n.was) (sym (c.jobs_fit.ensures c.requires.0 (planned _ _ _ _ c.plan_all.result (c.plan_all.ensures c.requires.0 c.requires.1 c.requires.2.plan) c.in_ok-n.was).jobs (fit-asks _ _ c.requires.0 c.requires.1 c.requires.2 (planned _ _ _ _ c.plan_all.result (c.plan_all.ensures c.requires.0 c.requires.1 c.requires.2.plan) c.in_ok-n.was))) ∙ c.if-not-jobs_fit.false))

pub overflow_sub-result : goal.overflow_sub-result
overflow_sub-result c = omega (arith, (c.make_counted-end.ensures c.requires.0 (planned _ _ _ _ c.plan_all.result (c.plan_all.ensures c.requires.0 c.requires.1 c.requires.2.plan) c.in_ok-n.was).jobs (jobs-ask _ _ c.requires.0 c.requires.1 c.requires.2 (planned _ _ _ _ c.plan_all.result (c.plan_all.ensures c.requires.0 c.requires.1 c.requires.2.plan) c.in_ok-n.was)) (room _ _ c.requires.0 c.requires.1 c.requires.2 (planned _ _ _ _ c.plan_all.result (c.plan_all.ensures c.requires.0 c.requires.1 c.requires.2.plan) c.in_ok-n.was) (sym (c.jobs_fit.ensures c.requires.0 (planned _ _ _ _ c.plan_all.result (c.plan_all.ensures c.requires.0 c.requires.1 c.requires.2.plan) c.in_ok-n.was).jobs (fit-asks _ _ c.requires.0 c.requires.1 c.requires.2 (planned _ _ _ _ c.plan_all.result (c.plan_all.ensures c.requires.0 c.requires.1 c.requires.2.plan) c.in_ok-n.was))) ∙ c.if-not-jobs_fit.false))).1)

pub returns : goal.returns
returns c = λ b A a. makes _ _ b A a (planned _ _ _ _ c.plan_all.result (c.plan_all.ensures b A a.plan) c.in_ok-n.was) _ (sym (c.jobs_fit.ensures b (planned _ _ _ _ c.plan_all.result (c.plan_all.ensures b A a.plan) c.in_ok-n.was).jobs (fit-asks _ _ b A a (planned _ _ _ _ c.plan_all.result (c.plan_all.ensures b A a.plan) c.in_ok-n.was))) ∙ c.if-not-jobs_fit.false) (c.make_counted-end.ensures b (planned _ _ _ _ c.plan_all.result (c.plan_all.ensures b A a.plan) c.in_ok-n.was).jobs (jobs-ask _ _ b A a (planned _ _ _ _ c.plan_all.result (c.plan_all.ensures b A a.plan) c.in_ok-n.was)) (room _ _ b A a (planned _ _ _ _ c.plan_all.result (c.plan_all.ensures b A a.plan) c.in_ok-n.was) (sym (c.jobs_fit.ensures b (planned _ _ _ _ c.plan_all.result (c.plan_all.ensures b A a.plan) c.in_ok-n.was).jobs (fit-asks _ _ b A a (planned _ _ _ _ c.plan_all.result (c.plan_all.ensures b A a.plan) c.in_ok-n.was))) ∙ c.if-not-jobs_fit.false)))

pub returns-in_err-n : goal.returns-in_err-n
returns-in_err-n c = λ b A a. let p = err_from_is_err_and c.from_residual.result c.from_residual.ensures.1 in rw (p.1, p.2) (stopped _ _ _ _ c.plan_all.result (c.plan_all.ensures b A a.plan) c.in_err-n.was _ _ _ _)
