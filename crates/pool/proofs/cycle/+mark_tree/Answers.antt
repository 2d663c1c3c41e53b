-- `pool::cycle::mark_tree` meets its contract: each need is one lemma of proofs/Spread.antt. The measure is the node.
-- Assumes nothing.
use native.Mathlib.Omega.{arith}
use Rattle.pool.proofs.Spread.{room, leaf-asks, leaf_spreads, stands0, less0, one_spreads, stands1, less1, two_spreads, stands2, less2, three_spreads}
use Rattle.pool.proofs.cycle.+mark_tree.Goals as goal

pub count_at-count-requires : goal.count_at-count-requires
count_at-count-requires t c = room c.requires.4

pub mark_leaf-requires : goal.mark_leaf-requires
mark_leaf-requires t c = leaf-asks c.requires.4 c.count_at-count.ensures c.if-count-eq0.true

pub returns-then-count-eq0 : goal.returns-then-count-eq0
returns-then-count-eq0 t c = λ l x n m a. leaf_spreads a c.count_at-count.ensures c.if-count-eq0.true c.mark_leaf.ensures

pub child-requires : goal.child-requires
child-requires t c = room c.requires.4

pub mark_tree-first-requires : goal.mark_tree-first-requires
mark_tree-first-requires t c = let a = c.requires.4 in (omega (arith, c.requires.0, less0 a c.count_at-count.ensures c.if-count-eq0.false c.child.ensures), (c.requires.0, c.requires.1, c.requires.2, c.requires.3, (stands0 a c.count_at-count.ensures c.if-count-eq0.false c.child.ensures)))

pub returns-then-count-eq1 : goal.returns-then-count-eq1
returns-then-count-eq1 t c = λ l x n m a. one_spreads a c.count_at-count.ensures c.if-count-eq0.false c.child.ensures (c.mark_tree-first.ensures l x n m (stands0 a c.count_at-count.ensures c.if-count-eq0.false c.child.ensures)) c.if-count-eq1.true

pub child-requires-2 : goal.child-requires-2
child-requires-2 t c = room c.requires.4

pub mark_tree-second-requires : goal.mark_tree-second-requires
mark_tree-second-requires t c = let a = c.requires.4 in (omega (arith, c.requires.0, less1 a c.count_at-count.ensures c.if-count-eq0.false c.if-count-eq1.false c.child-2.ensures), (c.requires.0, c.requires.1, c.requires.2, c.requires.3, (stands1 a c.count_at-count.ensures c.if-count-eq0.false c.if-count-eq1.false c.child-2.ensures)))

pub returns-then-count-eq2 : goal.returns-then-count-eq2
returns-then-count-eq2 t c = λ l x n m a. two_spreads a c.count_at-count.ensures c.if-count-eq0.false c.child.ensures (c.mark_tree-first.ensures l x n m (stands0 a c.count_at-count.ensures c.if-count-eq0.false c.child.ensures)) c.child-2.ensures (c.mark_tree-second.ensures l x n m (stands1 a c.count_at-count.ensures c.if-count-eq0.false c.if-count-eq1.false c.child-2.ensures)) c.if-count-eq2.true

pub child-requires-3 : goal.child-requires-3
child-requires-3 t c = room c.requires.4

pub mark_tree-requires : goal.mark_tree-requires
mark_tree-requires t c = let a = c.requires.4 in (omega (arith, c.requires.0, less2 a c.count_at-count.ensures c.if-count-eq0.false c.if-count-eq1.false c.child-2.ensures c.if-count-eq2.false c.child-3.ensures), (c.requires.0, c.requires.1, c.requires.2, c.requires.3, (stands2 a c.count_at-count.ensures c.if-count-eq0.false c.if-count-eq1.false c.child-2.ensures c.if-count-eq2.false c.child-3.ensures)))

pub returns : goal.returns
returns t c = λ l x n m a. three_spreads a c.count_at-count.ensures c.if-count-eq0.false c.child.ensures (c.mark_tree-first.ensures l x n m (stands0 a c.count_at-count.ensures c.if-count-eq0.false c.child.ensures)) c.child-2.ensures (c.mark_tree-second.ensures l x n m (stands1 a c.count_at-count.ensures c.if-count-eq0.false c.if-count-eq1.false c.child-2.ensures)) c.if-count-eq1.false c.if-count-eq2.false c.child-3.ensures (c.mark_tree.ensures l x n m (stands2 a c.count_at-count.ensures c.if-count-eq0.false c.if-count-eq1.false c.child-2.ensures c.if-count-eq2.false c.child-3.ensures))
