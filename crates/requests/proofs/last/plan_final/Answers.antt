-- `requests::last::plan_final` meets its contract: each need is one lemma of proofs/Plans.antt or proofs/Lasts.antt.
-- Assumes nothing.
use native.Mathlib.Omega.{arith}
use Rattle.std.proofs.lemmas.Result.{err_from_is_err_and}
use Rattle.requests.proofs.Plans.{lost}
use Rattle.requests.proofs.Lasts.{cell-there, mark-is, told}
use Rattle.requests.proofs.last.plan_final.Goals as goal

pub request_at-q-requires : goal.request_at-q-requires
request_at-q-requires c = omega (arith, c.requires.2.there)

pub returns-then-m-e : goal.returns-then-m-e
returns-then-m-e c = λ b A a. rw c.into.ensures (lost _ _ b A a c.request_at-q.result c.request_at-q.ensures c.if-m-e.true, tt)

pub is_marked-marked-requires : goal.is_marked-marked-requires
is_marked-marked-requires c = cell-there _ _ c.requires.0 c.requires.1 c.requires.2 c.request_at-q.result c.request_at-q.ensures c.if-m-e.false

pub returns : goal.returns
returns c = λ b A a. (told _ _ _ _ _ c.plan_request.result _ (c.plan_request.ensures b A a) c.in_ok-after.was, mark-is _ _ b A a c.request_at-q.result c.request_at-q.ensures c.is_marked-marked.ensures)

pub returns-in_err-after : goal.returns-in_err-after
returns-in_err-after c = λ b A a. let p = err_from_is_err_and c.from_residual.result c.from_residual.ensures.1 in rw (p.1, p.2) (told _ _ _ _ _ c.plan_request.result _ (c.plan_request.ensures b A a) c.in_err-after.was)
