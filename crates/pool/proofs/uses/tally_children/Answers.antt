-- `pool::uses::tally_children` meets its contract. Assumes nothing.
use Rattle.pool.proofs.Tally.{no-child, one-child, two-children, three-children}
use Rattle.pool.proofs.uses.tally_children.Goals as goal

pub returns-then-count-eq0 : goal.returns-then-count-eq0
returns-then-count-eq0 c = no-child c.args.nodes.now c.args.i c.count_at-count.ensures c.if-count-eq0.true

pub returns-then-count-eq1 : goal.returns-then-count-eq1
returns-then-count-eq1 c = one-child c.args.nodes.now c.args.i c.count_at-count.ensures c.child.ensures c.tally.ensures c.if-count-eq1.true

pub returns-then-count-eq2 : goal.returns-then-count-eq2
returns-then-count-eq2 c = two-children c.args.nodes.now c.args.i c.count_at-count.ensures c.child.ensures c.tally.ensures c.child-2.ensures c.tally-2.ensures c.if-count-eq2.true

pub returns : goal.returns
returns c = three-children c.args.nodes.now c.args.i c.count_at-count.ensures c.child.ensures c.tally.ensures c.child-2.ensures c.tally-2.ensures c.if-count-eq0.false c.if-count-eq1.false c.if-count-eq2.false c.child-3.ensures c.tally-3.ensures
