-- `codegen::serve::serve_result` meets its contract: each need is one lemma of proofs/Serves.antt.
-- Assumes nothing.
use mathlib.Core.Path.{refl}
use native.Mathlib.Omega.{arith}
use Rattle.std.proofs.lemmas.Result.{err_from_is_err_and}
use Rattle.codegen.proofs.Serves.{plan-asks, commit-asks, planned-last, last-planned, result-stopped, result-primed, result-cell, row_low, result-served}
use Rattle.codegen.proofs.serve.serve_result.Goals as goal

pub plan_last-requires : goal.plan_last-requires
plan_last-requires c = let P = c.requires in (P.0, P.1, plan-asks P.2 c.load_marks.ensures _ refl)

pub request_at-q-requires : goal.request_at-q-requires
request_at-q-requires c = omega (arith, c.requires.2.fresh.few)

pub returns-then-not-is_allowed : goal.returns-then-not-is_allowed
returns-then-not-is_allowed c = λ b A a is. rw c.into.ensures (result-primed _ a c.load_marks.ensures _ is _ _ _ c.plan_last.result (c.plan_last.ensures b A (plan-asks a c.load_marks.ensures _ refl)) c.in_ok-planned.was c.request_at-q.result c.request_at-q.ensures c.is_allowed.ensures c.if-not-is_allowed.true)

pub commit_result-requires : goal.commit_result-requires
commit_result-requires c = let P = c.requires in let d = planned-last _ P.2 c.load_marks.ensures _ _ _ c.plan_last.result (c.plan_last.ensures P.0 P.1 (plan-asks P.2 c.load_marks.ensures _ refl)) c.in_ok-planned.was in (P.0, d.jobs, commit-asks P.2 c.load_marks.ensures refl d c.load_blocks.ensures)

pub returns : goal.returns
returns c = λ b A a is. let d = last-planned _ a c.load_marks.ensures _ is _ _ _ c.plan_last.result (c.plan_last.ensures b A (plan-asks a c.load_marks.ensures _ refl)) c.in_ok-planned.was in result-served _ a c.load_marks.ensures _ is _ _ _ c.plan_last.result (c.plan_last.ensures b A (plan-asks a c.load_marks.ensures _ refl)) c.in_ok-planned.was c.request_at-q.result c.request_at-q.ensures c.is_allowed.ensures c.if-not-is_allowed.false c.destination.ensures (c.commit_result.ensures b d.jobs _ _ (commit-asks a c.load_marks.ensures refl d c.load_blocks.ensures) (row_low _ a c.load_marks.ensures c.args.w is _ _ _ c.plan_last.result (c.plan_last.ensures b A (plan-asks a c.load_marks.ensures _ refl)) c.in_ok-planned.was c.request_at-q.result c.request_at-q.ensures c.is_allowed.ensures) (result-cell _ a c.load_marks.ensures c.args.w is _ _ _ c.plan_last.result (c.plan_last.ensures b A (plan-asks a c.load_marks.ensures _ refl)) c.in_ok-planned.was c.request_at-q.result c.request_at-q.ensures c.is_allowed.ensures refl))

pub returns-in_err-planned : goal.returns-in_err-planned
returns-in_err-planned c = λ b A a is. let p = err_from_is_err_and c.from_residual.result c.from_residual.ensures.1 in rw (p.1, p.2) (result-stopped _ a c.load_marks.ensures _ is _ _ _ c.plan_last.result (c.plan_last.ensures b A (plan-asks a c.load_marks.ensures _ refl)) c.in_err-planned.was)
