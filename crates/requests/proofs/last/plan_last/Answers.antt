-- `requests::last::plan_last` meets its contract: each need is one lemma of proofs/Lasts.antt.
-- Assumes nothing.
use Rattle.std.proofs.lemmas.Result.{err_from_is_err_and}
use Rattle.requests.proofs.Lasts.{before-asks, before-stopped, final-asks, final-says}
use Rattle.requests.proofs.last.plan_last.Goals as goal

pub plan_all-requires : goal.plan_all-requires
plan_all-requires c = (c.requires.0, c.requires.1, before-asks _ _ _ _ _ c.requires.2)

pub plan_final-requires : goal.plan_final-requires
plan_final-requires c = (c.requires.0, c.requires.1, final-asks _ _ c.requires.0 c.requires.1 _ c.requires.2 _ _ c.plan_all.result (c.plan_all.ensures c.requires.0 c.requires.1 (before-asks _ _ _ _ _ c.requires.2)) c.in_ok-n.was)

pub returns : goal.returns
returns c = λ b A a. final-says _ _ b A _ a _ _ c.plan_all.result (c.plan_all.ensures b A (before-asks _ _ b A _ a)) c.in_ok-n.was _ _ c.plan_final.result (c.plan_final.ensures b A (final-asks _ _ b A _ a _ _ c.plan_all.result (c.plan_all.ensures b A (before-asks _ _ b A _ a)) c.in_ok-n.was))

pub returns-in_err-n : goal.returns-in_err-n
returns-in_err-n c = λ b A a. let p = err_from_is_err_and c.from_residual.result c.from_residual.ensures.1 in rw (p.1, p.2) (before-stopped _ _ b A _ a _ _ c.plan_all.result (c.plan_all.ensures b A (before-asks _ _ b A _ a)) c.in_err-n.was)
