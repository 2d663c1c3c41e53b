-- `constraint_pool::measure::tree_size` meets its contract: each need is one lemma of proofs/Measures.antt. The measure is the node.
-- Assumes nothing.
use native.Mathlib.Omega.{arith}
use Rattle.constraint_pool.proofs.Measures.{room-here, leaf-size, less0, asks0, one_size, less1, asks1, two_size, less2, asks2, three-size, capped_small}
use Rattle.constraint_pool.proofs.measure.+tree_size.Goals as goal

pub count_at-count-requires : goal.count_at-count-requires
count_at-count-requires t c = room-here c.requires.4

pub returns-then-count-eq0 : goal.returns-then-count-eq0
returns-then-count-eq0 t c = λ l x n m a. leaf-size a c.count_at-count.ensures c.if-count-eq0.true

pub child-requires : goal.child-requires
child-requires t c = room-here c.requires.4

pub tree_size-a-requires : goal.tree_size-a-requires
tree_size-a-requires t c = let P = c.requires in let l = P.0 in let x = P.1 in let n = P.2 in let m = P.3 in let a = P.4 in (omega (arith, less0 a c.count_at-count.ensures c.if-count-eq0.false c.child.ensures), (l, x, n, m, asks0 a c.count_at-count.ensures c.if-count-eq0.false c.child.ensures))

pub overflow_add-a : goal.overflow_add-a
overflow_add-a t c = let P = c.requires in let l = P.0 in let x = P.1 in let n = P.2 in let m = P.3 in let a = P.4 in omega (arith, capped_small _ _ (c.tree_size-a.ensures l x n m (asks0 a c.count_at-count.ensures c.if-count-eq0.false c.child.ensures)))

pub returns-then-count-eq1 : goal.returns-then-count-eq1
returns-then-count-eq1 t c = λ l x n m a. one_size a c.count_at-count.ensures c.if-count-eq0.false c.child.ensures (c.tree_size-a.ensures l x n m (asks0 a c.count_at-count.ensures c.if-count-eq0.false c.child.ensures)) c.if-count-eq1.true c.capped.ensures

pub child-requires-2 : goal.child-requires-2
child-requires-2 t c = room-here c.requires.4

pub tree_size-b-requires : goal.tree_size-b-requires
tree_size-b-requires t c = let P = c.requires in let l = P.0 in let x = P.1 in let n = P.2 in let m = P.3 in let a = P.4 in (omega (arith, less1 a c.count_at-count.ensures c.if-count-eq0.false c.child.ensures (c.tree_size-a.ensures l x n m (asks0 a c.count_at-count.ensures c.if-count-eq0.false c.child.ensures)) c.if-count-eq1.false c.child-2.ensures), (l, x, n, m, asks1 a c.count_at-count.ensures c.if-count-eq0.false c.child.ensures (c.tree_size-a.ensures l x n m (asks0 a c.count_at-count.ensures c.if-count-eq0.false c.child.ensures)) c.if-count-eq1.false c.child-2.ensures))

pub overflow_add-a-then-count-eq2 : goal.overflow_add-a-then-count-eq2
overflow_add-a-then-count-eq2 t c = let P = c.requires in let l = P.0 in let x = P.1 in let n = P.2 in let m = P.3 in let a = P.4 in omega (arith, capped_small _ _ (c.tree_size-a.ensures l x n m (asks0 a c.count_at-count.ensures c.if-count-eq0.false c.child.ensures)), capped_small _ _ (c.tree_size-b.ensures l x n m (asks1 a c.count_at-count.ensures c.if-count-eq0.false c.child.ensures (c.tree_size-a.ensures l x n m (asks0 a c.count_at-count.ensures c.if-count-eq0.false c.child.ensures)) c.if-count-eq1.false c.child-2.ensures)))

pub overflow_add-a-then-count-eq2-2 : goal.overflow_add-a-then-count-eq2-2
overflow_add-a-then-count-eq2-2 t c = let P = c.requires in let l = P.0 in let x = P.1 in let n = P.2 in let m = P.3 in let a = P.4 in omega (arith, capped_small _ _ (c.tree_size-a.ensures l x n m (asks0 a c.count_at-count.ensures c.if-count-eq0.false c.child.ensures)), capped_small _ _ (c.tree_size-b.ensures l x n m (asks1 a c.count_at-count.ensures c.if-count-eq0.false c.child.ensures (c.tree_size-a.ensures l x n m (asks0 a c.count_at-count.ensures c.if-count-eq0.false c.child.ensures)) c.if-count-eq1.false c.child-2.ensures)))

pub returns-then-count-eq2 : goal.returns-then-count-eq2
returns-then-count-eq2 t c = λ l x n m a. two_size a c.count_at-count.ensures c.if-count-eq0.false c.child.ensures (c.tree_size-a.ensures l x n m (asks0 a c.count_at-count.ensures c.if-count-eq0.false c.child.ensures)) c.if-count-eq1.false c.child-2.ensures (c.tree_size-b.ensures l x n m (asks1 a c.count_at-count.ensures c.if-count-eq0.false c.child.ensures (c.tree_size-a.ensures l x n m (asks0 a c.count_at-count.ensures c.if-count-eq0.false c.child.ensures)) c.if-count-eq1.false c.child-2.ensures)) c.if-count-eq2.true c.capped-then-count-eq2.ensures

pub child-requires-3 : goal.child-requires-3
child-requires-3 t c = room-here c.requires.4

pub tree_size-c-requires : goal.tree_size-c-requires
tree_size-c-requires t c = let P = c.requires in let l = P.0 in let x = P.1 in let n = P.2 in let m = P.3 in let a = P.4 in (omega (arith, less2 a c.count_at-count.ensures c.if-count-eq0.false c.child.ensures (c.tree_size-a.ensures l x n m (asks0 a c.count_at-count.ensures c.if-count-eq0.false c.child.ensures)) c.if-count-eq1.false c.child-2.ensures (c.tree_size-b.ensures l x n m (asks1 a c.count_at-count.ensures c.if-count-eq0.false c.child.ensures (c.tree_size-a.ensures l x n m (asks0 a c.count_at-count.ensures c.if-count-eq0.false c.child.ensures)) c.if-count-eq1.false c.child-2.ensures)) c.if-count-eq2.false c.child-3.ensures), (l, x, n, m, asks2 a c.count_at-count.ensures c.if-count-eq0.false c.child.ensures (c.tree_size-a.ensures l x n m (asks0 a c.count_at-count.ensures c.if-count-eq0.false c.child.ensures)) c.if-count-eq1.false c.child-2.ensures (c.tree_size-b.ensures l x n m (asks1 a c.count_at-count.ensures c.if-count-eq0.false c.child.ensures (c.tree_size-a.ensures l x n m (asks0 a c.count_at-count.ensures c.if-count-eq0.false c.child.ensures)) c.if-count-eq1.false c.child-2.ensures)) c.if-count-eq2.false c.child-3.ensures))

pub overflow_add-a-2 : goal.overflow_add-a-2
overflow_add-a-2 t c = let P = c.requires in let l = P.0 in let x = P.1 in let n = P.2 in let m = P.3 in let a = P.4 in omega (arith, capped_small _ _ (c.tree_size-a.ensures l x n m (asks0 a c.count_at-count.ensures c.if-count-eq0.false c.child.ensures)), capped_small _ _ (c.tree_size-b.ensures l x n m (asks1 a c.count_at-count.ensures c.if-count-eq0.false c.child.ensures (c.tree_size-a.ensures l x n m (asks0 a c.count_at-count.ensures c.if-count-eq0.false c.child.ensures)) c.if-count-eq1.false c.child-2.ensures)))

pub overflow_add-a-3 : goal.overflow_add-a-3
overflow_add-a-3 t c = let P = c.requires in let l = P.0 in let x = P.1 in let n = P.2 in let m = P.3 in let a = P.4 in omega (arith, capped_small _ _ (c.tree_size-a.ensures l x n m (asks0 a c.count_at-count.ensures c.if-count-eq0.false c.child.ensures)), capped_small _ _ (c.tree_size-b.ensures l x n m (asks1 a c.count_at-count.ensures c.if-count-eq0.false c.child.ensures (c.tree_size-a.ensures l x n m (asks0 a c.count_at-count.ensures c.if-count-eq0.false c.child.ensures)) c.if-count-eq1.false c.child-2.ensures)), capped_small _ _ (c.tree_size-c.ensures l x n m (asks2 a c.count_at-count.ensures c.if-count-eq0.false c.child.ensures (c.tree_size-a.ensures l x n m (asks0 a c.count_at-count.ensures c.if-count-eq0.false c.child.ensures)) c.if-count-eq1.false c.child-2.ensures (c.tree_size-b.ensures l x n m (asks1 a c.count_at-count.ensures c.if-count-eq0.false c.child.ensures (c.tree_size-a.ensures l x n m (asks0 a c.count_at-count.ensures c.if-count-eq0.false c.child.ensures)) c.if-count-eq1.false c.child-2.ensures)) c.if-count-eq2.false c.child-3.ensures)))

pub overflow_add-a-4 : goal.overflow_add-a-4
overflow_add-a-4 t c = let P = c.requires in let l = P.0 in let x = P.1 in let n = P.2 in let m = P.3 in let a = P.4 in omega (arith, capped_small _ _ (c.tree_size-a.ensures l x n m (asks0 a c.count_at-count.ensures c.if-count-eq0.false c.child.ensures)), capped_small _ _ (c.tree_size-b.ensures l x n m (asks1 a c.count_at-count.ensures c.if-count-eq0.false c.child.ensures (c.tree_size-a.ensures l x n m (asks0 a c.count_at-count.ensures c.if-count-eq0.false c.child.ensures)) c.if-count-eq1.false c.child-2.ensures)), capped_small _ _ (c.tree_size-c.ensures l x n m (asks2 a c.count_at-count.ensures c.if-count-eq0.false c.child.ensures (c.tree_size-a.ensures l x n m (asks0 a c.count_at-count.ensures c.if-count-eq0.false c.child.ensures)) c.if-count-eq1.false c.child-2.ensures (c.tree_size-b.ensures l x n m (asks1 a c.count_at-count.ensures c.if-count-eq0.false c.child.ensures (c.tree_size-a.ensures l x n m (asks0 a c.count_at-count.ensures c.if-count-eq0.false c.child.ensures)) c.if-count-eq1.false c.child-2.ensures)) c.if-count-eq2.false c.child-3.ensures)))

pub returns : goal.returns
returns t c = λ l x n m a. three-size a c.count_at-count.ensures c.if-count-eq0.false c.child.ensures (c.tree_size-a.ensures l x n m (asks0 a c.count_at-count.ensures c.if-count-eq0.false c.child.ensures)) c.if-count-eq1.false c.child-2.ensures (c.tree_size-b.ensures l x n m (asks1 a c.count_at-count.ensures c.if-count-eq0.false c.child.ensures (c.tree_size-a.ensures l x n m (asks0 a c.count_at-count.ensures c.if-count-eq0.false c.child.ensures)) c.if-count-eq1.false c.child-2.ensures)) c.if-count-eq2.false c.child-3.ensures (c.tree_size-c.ensures l x n m (asks2 a c.count_at-count.ensures c.if-count-eq0.false c.child.ensures (c.tree_size-a.ensures l x n m (asks0 a c.count_at-count.ensures c.if-count-eq0.false c.child.ensures)) c.if-count-eq1.false c.child-2.ensures (c.tree_size-b.ensures l x n m (asks1 a c.count_at-count.ensures c.if-count-eq0.false c.child.ensures (c.tree_size-a.ensures l x n m (asks0 a c.count_at-count.ensures c.if-count-eq0.false c.child.ensures)) c.if-count-eq1.false c.child-2.ensures)) c.if-count-eq2.false c.child-3.ensures)) c.capped-2.ensures
