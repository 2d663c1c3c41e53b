-- `lent_lists::judge::judge_lists` meets its contract.
-- Assumes nothing.
use Rattle.std.proofs.Common.{refl, ◌∙◌, ap}
use Rattle.kinds.specs.AnswerLaws.{passed-on, refusal-some}
use Rattle.lent_lists.specs.Verdicts.{judged_no}
use Rattle.lent_lists.specs.Laws.Walks.{in_first, in_i, in_last}
use Rattle.lent_lists.proofs.judge.judge_lists.Goals as goal

pub returns-in_err-judge_list : goal.returns-in_err-judge_list
returns-in_err-judge_list g c =
    ap judged_no (passed-on _ c.from_residual.ensures.1)
    ∙ in_first _ c.args.first.now c.args.i.now c.args.last.now _ c.in_err-judge_list.ensures (refusal-some _)

pub returns-in_err-judge_list-2 : goal.returns-in_err-judge_list-2
returns-in_err-judge_list-2 g c =
    ap judged_no (passed-on _ c.from_residual-in_err-judge_list-2.ensures.1)
    ∙ in_i _ c.args.first.now c.args.i.now c.args.last.now _ c.in_ok-judge_list.ensures refl _ c.in_err-judge_list-2.ensures (refusal-some _)

pub returns : goal.returns
returns g c = in_last _ c.args.first.now c.args.i.now c.args.last.now _ c.in_ok-judge_list.ensures refl _ c.in_ok-judge_list-2.ensures refl _ c.judge_list-3.ensures
