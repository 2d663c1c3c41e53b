-- `requests::plan::plan_request` meets its contract: each need is one lemma of proofs/Plans.antt.
-- Assumes nothing.
use native.Mathlib.Omega.{arith}
use Rattle.requests.proofs.Plans.{lost, code-asks, double, jobs}
use Rattle.requests.proofs.plan.plan_request.Goals as goal

pub request_at-q-requires : goal.request_at-q-requires
request_at-q-requires c = omega (arith, c.requires.2.there)

pub returns-then-m-e : goal.returns-then-m-e
returns-then-m-e c = λ b A a. rw c.into.ensures (lost _ _ b A a c.request_at-q.result c.request_at-q.ensures c.if-m-e.true, tt)

pub pil_code_gen-after-requires : goal.pil_code_gen-after-requires
pil_code_gen-after-requires c = (c.requires.0, c.requires.1, code-asks _ _ c.requires.0 c.requires.1 c.requires.2 c.request_at-q.result c.request_at-q.ensures c.if-m-e.false)

pub returns-then-after-gt-JOB_LIMIT : goal.returns-then-after-gt-JOB_LIMIT
returns-then-after-gt-JOB_LIMIT c = λ b A a. rw c.at.ensures (double _ _ b A a c.request_at-q.result c.request_at-q.ensures c.if-m-e.false (c.pil_code_gen-after.ensures b A (code-asks _ _ b A a c.request_at-q.result c.request_at-q.ensures c.if-m-e.false)) c.if-after-gt-JOB_LIMIT.true, tt)

pub returns : goal.returns
returns c = λ b A a. jobs _ _ b A a c.request_at-q.result c.request_at-q.ensures c.if-m-e.false (c.pil_code_gen-after.ensures b A (code-asks _ _ b A a c.request_at-q.result c.request_at-q.ensures c.if-m-e.false)) c.if-after-gt-JOB_LIMIT.false
