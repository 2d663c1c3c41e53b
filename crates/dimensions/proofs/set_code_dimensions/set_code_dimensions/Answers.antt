-- `dimensions::set_code_dimensions::set_code_dimensions` meets its contract: each of its answers is one law of specs/Laws/Segments.antt.
-- Assumes nothing.
use mathlib.Core.Path.{sym, ◌∙◌, ap}
use Rattle.kinds.specs.AnswerLaws.{passed-on}
use Rattle.dimensions.specs.Answers.{dimensioned_no}
use Rattle.dimensions.specs.Laws.Segments.{bad-first, bad-later, good_none, good_more, answers-malformed, answers-refused, answers-done}
use Rattle.dimensions.proofs.set_code_dimensions.set_code_dimensions.Goals as goal
use Rattle.dimensions.proofs.set_code_dimensions.set_code_dimensions.Goals.{then-not-good_list-via-then-not-good_list, then-not-good_list-via-else-not-good_list+then-not-good_list-2, then-not-good_list-via-else-not-good_list+else-not-good_list-2+then-not-good_list-3}

pub returns-then-not-good_list : goal.returns-then-not-good_list
returns-then-not-good_list c = answers-malformed _ _ (elim c.then-not-good_list.branch [
  | then-not-good_list-via-then-not-good_list w ↦ bad-first _ _ _ c.good_list.ensures w.if-not-good_list.true
  | then-not-good_list-via-else-not-good_list+then-not-good_list-2 w ↦ bad-later _ _ _ c.good_list.ensures w.if-not-good_list.false (bad-first _ _ _ w.good_list-else-not-good_list.ensures w.if-not-good_list-2.true)
  | then-not-good_list-via-else-not-good_list+else-not-good_list-2+then-not-good_list-3 w ↦ bad-later _ _ _ c.good_list.ensures w.if-not-good_list.false (bad-later _ _ _ w.good_list-else-not-good_list.ensures w.if-not-good_list-2.false (bad-first _ _ _ w.good_list-else-not-good_list-2.ensures w.if-not-good_list-3.true))
])

pub write_segment-requires : goal.write_segment-requires
write_segment-requires c = (sym c.good_list.ensures ∙ c.if-not-good_list.false, sym c.good_list-else-not-good_list.ensures ∙ c.if-not-good_list-2.false, sym c.good_list-else-not-good_list-2.ensures ∙ c.if-not-good_list-3.false)

pub returns-in_err-decide_segment : goal.returns-in_err-decide_segment
returns-in_err-decide_segment c = answers-refused _ _ (good_more _ _ _ c.good_list.ensures c.if-not-good_list.false (good_more _ _ _ c.good_list-else-not-good_list.ensures c.if-not-good_list-2.false (good_more _ _ _ c.good_list-else-not-good_list-2.ensures c.if-not-good_list-3.false good_none))) c.decide_segment.result c.decide_segment.ensures _ c.in_err-decide_segment.was _ (ap dimensioned_no (passed-on _ c.from_residual.ensures.1))

pub returns : goal.returns
returns c = answers-done _ _ (good_more _ _ _ c.good_list.ensures c.if-not-good_list.false (good_more _ _ _ c.good_list-else-not-good_list.ensures c.if-not-good_list-2.false (good_more _ _ _ c.good_list-else-not-good_list-2.ensures c.if-not-good_list-3.false good_none))) c.decide_segment.result c.decide_segment.ensures c.in_ok-decide_segment.was _ c.write_segment.ensures
