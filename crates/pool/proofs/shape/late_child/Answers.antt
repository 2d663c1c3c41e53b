-- `pool::shape::late_child` meets its contract. Assumes nothing.
use Rattle.pool.proofs.Late.{none-late-at, none-late, first-late, one_earlier, second-late, two-earlier, third-late}
use Rattle.pool.proofs.shape.late_child.Goals as goal

pub returns-then-all_earlier : goal.returns-then-all_earlier
returns-then-all_earlier c = none-late-at _ _ (c.all_earlier.ensures c.if-all_earlier.true)

pub returns-then-count-eq0 : goal.returns-then-count-eq0
returns-then-count-eq0 c = none-late _ _ c.count_at-count.ensures c.if-count-eq0.true

pub returns-then-i-child : goal.returns-then-i-child
returns-then-i-child c = first-late _ _ c.count_at-count.ensures c.if-count-eq0.false c.child.ensures c.if-i-child.true

pub returns-then-count-eq1 : goal.returns-then-count-eq1
returns-then-count-eq1 c = one_earlier _ _ c.count_at-count.ensures c.if-count-eq0.false c.child.ensures c.if-i-child.false c.if-count-eq1.true

pub returns-then-i-child-2 : goal.returns-then-i-child-2
returns-then-i-child-2 c = second-late _ _ c.count_at-count.ensures c.if-count-eq0.false c.child.ensures c.if-i-child.false c.if-count-eq1.false c.child-2.ensures c.if-i-child-2.true

pub returns-then-count-eq2 : goal.returns-then-count-eq2
returns-then-count-eq2 c = two-earlier _ _ c.count_at-count.ensures c.if-count-eq0.false c.child.ensures c.if-i-child.false c.if-count-eq1.false c.child-2.ensures c.if-i-child-2.false c.if-count-eq2.true

pub returns : goal.returns
returns c = third-late _ _ c.count_at-count.ensures c.if-count-eq0.false c.child.ensures c.if-i-child.false c.if-count-eq1.false c.child-2.ensures c.if-i-child-2.false c.if-count-eq2.false c.child-3.ensures
