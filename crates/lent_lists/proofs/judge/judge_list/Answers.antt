-- `lent_lists::judge::judge_list` meets its contract: nothing is refused of the records before k.
-- Assumes nothing.
use Rattle.std.proofs.Common.{refl, ◌∙◌, ap, arith}
use Rattle.kinds.specs.AnswerLaws.{passed-on, refusal-some}
use Rattle.lists.specs.Laws.{record_in}
use Rattle.lent_lists.specs.Verdicts.{judged_no}
use Rattle.lent_lists.specs.Laws.Walks.{ruled-begin, ruled-next, ruled-stop, ruled-end}
use Rattle.lent_lists.proofs.judge.judge_list.Goals as goal

pub loop-k-init : goal.loop-k-init
loop-k-init g c = ruled-begin _ _

pub judge_record-requires : goal.judge_record-requires
judge_record-requires g c = record_in c.args.list.now c.loop-k.k c.loop-k-test.true

pub returns-in_err-judge_record : goal.returns-in_err-judge_record
returns-in_err-judge_record g c =
    ap judged_no (passed-on _ c.from_residual.ensures.1)
    ∙ ruled-stop _ _ _ c.loop-k.invariant _ refl _ c.in_err-judge_record.ensures c.loop-k-test.true (refusal-some _)

pub loop-k-preserved : goal.loop-k-preserved
loop-k-preserved g c = ruled-next _ _ _ c.loop-k.invariant _ refl _ c.in_ok-judge_record.ensures refl

pub returns : goal.returns
returns g c = ruled-end _ _ _ c.loop-k.invariant c.loop-k.auto.k-end (omega arith)
