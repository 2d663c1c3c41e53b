-- `codegen::serve::serve_plain` meets its contract: each need is one lemma of proofs/Serves.antt.
-- Assumes nothing.
use mathlib.Core.Path.{refl}
use Rattle.std.proofs.lemmas.Result.{err_from_is_err_and}
use Rattle.codegen.proofs.Serves.{plan-asks, commit-asks, planned, plain-stopped, plain-served}
use Rattle.codegen.proofs.serve.serve_plain.Goals as goal

pub plan_all-requires : goal.plan_all-requires
plan_all-requires c = let P = c.requires in (P.0, P.1, plan-asks P.2 c.load_marks.ensures _ refl)

pub commit-requires : goal.commit-requires
commit-requires c = let P = c.requires in let d = planned P.2 c.load_marks.ensures _ _ _ c.plan_all.result (c.plan_all.ensures P.0 P.1 (plan-asks P.2 c.load_marks.ensures _ refl)) c.in_ok-n.was in (P.0, d.jobs, commit-asks P.2 c.load_marks.ensures refl d c.load_blocks.ensures)

pub returns : goal.returns
returns c = λ b A a. let g = c.plan_all.ensures b A (plan-asks a c.load_marks.ensures _ refl) in let d = planned a c.load_marks.ensures _ _ _ c.plan_all.result g c.in_ok-n.was in plain-served a c.load_marks.ensures _ _ _ c.plan_all.result g c.in_ok-n.was (c.commit.ensures b d.jobs (commit-asks a c.load_marks.ensures refl d c.load_blocks.ensures))

pub returns-in_err-n : goal.returns-in_err-n
returns-in_err-n c = λ b A a. let p = err_from_is_err_and c.from_residual.result c.from_residual.ensures.1 in rw (p.1, p.2) (plain-stopped a c.load_marks.ensures _ _ _ c.plan_all.result (c.plan_all.ensures b A (plan-asks a c.load_marks.ensures _ refl)) c.in_err-n.was)
