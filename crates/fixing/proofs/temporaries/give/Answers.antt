-- `fixing::temporaries::give` meets its contract.
-- Assumes nothing.
use Rattle.fixing.specs.Laws.Giving.{given-before, given-over, given-next}
use Rattle.fixing.proofs.temporaries.give.Goals as goal

pub returns-then-table-at-ne0 : goal.returns-then-table-at-ne0
returns-then-table-at-ne0 c = given-before _ _ _ c.if-table-at-ne0.true

pub returns-then-next-ge-LAST_COUNTER : goal.returns-then-next-ge-LAST_COUNTER
returns-then-next-ge-LAST_COUNTER c = given-over _ _ _ c.if-table-at-ne0.false c.if-next-ge-LAST_COUNTER.true

pub returns : goal.returns
returns c = given-next _ _ _ c.if-table-at-ne0.false c.if-next-ge-LAST_COUNTER.false
