-- `fixing::rules::decide` meets its contract.
-- Assumes nothing.
use Rattle.fixing.specs.Laws.Rules.{counter-large, lists-malformed, lists-decided}
use Rattle.fixing.proofs.rules.decide.Goals as goal

pub returns-then-counter-gt-LAST_COUNTER : goal.returns-then-counter-gt-LAST_COUNTER
returns-then-counter-gt-LAST_COUNTER c = counter-large _ _ _ _ _ c.if-counter-gt-LAST_COUNTER.true

pub returns-then-not-good_lists : goal.returns-then-not-good_lists
returns-then-not-good_lists c = lists-malformed _ _ _ _ _ c.if-counter-gt-LAST_COUNTER.false _ c.good_lists.ensures c.if-not-good_lists.true

pub returns : goal.returns
returns c = lists-decided _ _ _ _ _ c.if-counter-gt-LAST_COUNTER.false _ c.good_lists.ensures c.if-not-good_lists.false _ c.judge_lists.ensures
