-- `lent_lists::judge::judge_record` meets its contract: each way through the code is one law of specs/Laws/Walks.antt.
-- Assumes nothing.
use Rattle.std.proofs.Common.{refl, ◌∙◌, ap}
use Rattle.kinds.specs.AnswerLaws.{passed-on, refusal-some}
use Rattle.kinds.specs.Steps.{step_at}
use Rattle.lent_lists.specs.Verdicts.{judged_no}
use Rattle.lent_lists.specs.Laws.Records.{runs_by_lem}
use Rattle.lent_lists.specs.Laws.Walks.{step_ruleless, first_refused, second_refused, third-refused, dest-decides}
use Rattle.lent_lists.proofs.judge.judge_record.Goals as goal

pub returns-then-not-has_step : goal.returns-then-not-has_step
unfolding step_at
returns-then-not-has_step g c = step_ruleless _ (step_at c.args.list.now c.args.at) _ (runs_by_lem (step_at c.args.list.now c.args.at) _ c.has_step.ensures) c.if-not-has_step.true

pub returns-in_err-judge_used : goal.returns-in_err-judge_used
unfolding step_at
returns-in_err-judge_used g c =
    let x = step_at c.args.list.now c.args.at in
    ap judged_no (passed-on _ c.from_residual.ensures.1)
    ∙ first_refused _ x _ (runs_by_lem x _ c.has_step.ensures) c.if-not-has_step.false _ c.in_err-judge_used.ensures (refusal-some _)

pub returns-in_err-judge_used-2 : goal.returns-in_err-judge_used-2
unfolding step_at
returns-in_err-judge_used-2 g c =
    let x = step_at c.args.list.now c.args.at in
    ap judged_no (passed-on _ c.from_residual-in_err-judge_used-2.ensures.1)
    ∙ second_refused _ x _ (runs_by_lem x _ c.has_step.ensures) c.if-not-has_step.false _ c.in_ok-judge_used.ensures refl _ c.in_err-judge_used-2.ensures (refusal-some _)

pub returns-in_err-judge_used-3 : goal.returns-in_err-judge_used-3
unfolding step_at
returns-in_err-judge_used-3 g c =
    let x = step_at c.args.list.now c.args.at in
    ap judged_no (passed-on _ c.from_residual-in_err-judge_used-3.ensures.1)
    ∙ third-refused _ x _ (runs_by_lem x _ c.has_step.ensures) c.if-not-has_step.false _ c.in_ok-judge_used.ensures refl _ c.in_ok-judge_used-2.ensures refl _ c.in_err-judge_used-3.ensures (refusal-some _)

pub returns : goal.returns
unfolding step_at
returns g c =
    let x = step_at c.args.list.now c.args.at in
    dest-decides _ x _ (runs_by_lem x _ c.has_step.ensures) c.if-not-has_step.false _ c.in_ok-judge_used.ensures refl _ c.in_ok-judge_used-2.ensures refl _ c.in_ok-judge_used-3.ensures refl _ c.judge.ensures
