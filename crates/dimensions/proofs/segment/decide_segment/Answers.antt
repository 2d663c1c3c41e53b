-- `dimensions::segment::decide_segment` meets its contract: list by list, with the temporaries that the lists before left.
-- Assumes nothing.
use mathlib.Core.Path.{refl, ◌∙◌, ap}
use Rattle.kinds.specs.AnswerLaws.{passed-on}
use Rattle.dimensions.specs.Answers.{decided_refusal}
use Rattle.dimensions.specs.Laws.Segments.{lists-next, lists-stop, lists-last}
use Rattle.dimensions.proofs.segment.decide_segment.Goals as goal

pub returns-in_err-decide_list : goal.returns-in_err-decide_list
returns-in_err-decide_list c = ap decided_refusal (passed-on _ c.from_residual.ensures.1) ∙ lists-stop _ _ _ _ c.decide_list.result _ c.decide_list.ensures _ c.in_err-decide_list.was

pub returns-in_err-decide_list-2 : goal.returns-in_err-decide_list-2
returns-in_err-decide_list-2 c = ap decided_refusal (passed-on _ c.from_residual-in_err-decide_list-2.ensures.1) ∙ lists-stop _ _ _ _ c.decide_list-2.result _ c.decide_list-2.ensures _ c.in_err-decide_list-2.was ∙ lists-next _ _ _ _ c.decide_list.result _ c.decide_list.ensures c.in_ok-decide_list.was

pub returns : goal.returns
returns c = lists-last _ _ _ _ c.decide_list-3.result _ c.decide_list-3.ensures refl ∙ lists-next _ _ _ _ c.decide_list-2.result _ c.decide_list-2.ensures c.in_ok-decide_list-2.was ∙ lists-next _ _ _ _ c.decide_list.result _ c.decide_list.ensures c.in_ok-decide_list.was
