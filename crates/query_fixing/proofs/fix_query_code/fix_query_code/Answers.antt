-- `query_fixing::fix_query_code::fix_query_code` meets its contract: each way through the code is one law of specs/Laws/Trees.antt.
-- Assumes nothing.
use Rattle.std.proofs.Common.{refl}
use Rattle.kinds.specs.AnswerLaws.{passed-on}
use Rattle.query_fixing.specs.Laws.Trees.{query-malformed, query-refused, query-done}
use Rattle.query_fixing.proofs.fix_query_code.fix_query_code.Goals as goal

pub returns-then-not-good_lists : goal.returns-then-not-good_lists
returns-then-not-good_lists c = query-malformed _ _ _ _ _ c.good_lists.ensures c.if-not-good_lists.true

pub returns-in_err-judge_lists : goal.returns-in_err-judge_lists
returns-in_err-judge_lists c = rw (passed-on _ c.from_residual.ensures.1) (query-refused _ _ _ _ _ c.good_lists.ensures c.if-not-good_lists.false _ c.in_err-judge_lists.ensures _ refl)

pub returns : goal.returns
returns c = query-done _ _ _ _ _ c.good_lists.ensures c.if-not-good_lists.false _ c.in_ok-judge_lists.ensures refl _ _ _ c.rewrite_list.ensures c.rewrite_list-2.ensures c.rewrite_list-3.ensures
