-- `constraint_pool::copy::copy_tree` meets its contract: each need is one lemma of proofs/Trees.antt. The measure is the node.
-- Assumes nothing.
use native.Mathlib.Omega.{arith}
use Rattle.constraint_pool.proofs.Trees.{room-here, room_next, leaf-given, less0, asks0, before0, room0, one-given, less1, asks1, before1, room1, two-given, less2, asks2, before2, room2, three-given}
use Rattle.constraint_pool.proofs.copy.+copy_tree.Goals as goal

pub node_at-x-requires : goal.node_at-x-requires
node_at-x-requires t c = room-here c.requires.3

pub append-requires : goal.append-requires
append-requires t c = room_next c.requires.3

pub returns-then-x-eq0 : goal.returns-then-x-eq0
returns-then-x-eq0 t c = λ x n m a. leaf-given a c.node_at-x.ensures c.if-x-eq0.true c.with_children-leaf.ensures c.append.ensures

pub copy_tree-a-requires : goal.copy_tree-a-requires
copy_tree-a-requires t c = let a = c.requires.3 in (omega (arith, less0 a c.node_at-x.ensures c.if-x-eq0.false), (c.requires.0, c.requires.1, c.requires.2, asks0 a c.node_at-x.ensures c.if-x-eq0.false))

pub preceding-c0-requires : goal.preceding-c0-requires
preceding-c0-requires t c = let P = c.requires in let a = P.3 in let q = asks0 a c.node_at-x.ensures c.if-x-eq0.false in before0 a c.node_at-x.ensures c.if-x-eq0.false (c.copy_tree-a.ensures P.0 P.1 P.2 q)

pub append-requires-then-x-eq1 : goal.append-requires-then-x-eq1
append-requires-then-x-eq1 t c = let P = c.requires in let a = P.3 in let q = asks0 a c.node_at-x.ensures c.if-x-eq0.false in room0 a c.node_at-x.ensures c.if-x-eq0.false (c.copy_tree-a.ensures P.0 P.1 P.2 q)

pub returns-then-x-eq1 : goal.returns-then-x-eq1
returns-then-x-eq1 t c = λ x n m a. let q = asks0 a c.node_at-x.ensures c.if-x-eq0.false in one-given a c.node_at-x.ensures c.if-x-eq0.false (c.copy_tree-a.ensures x n m q) c.if-x-eq1.true c.preceding-c0.ensures c.with_children.ensures c.append-then-x-eq1.ensures

pub copy_tree-b-requires : goal.copy_tree-b-requires
copy_tree-b-requires t c = let a = c.requires.3 in let q = asks0 a c.node_at-x.ensures c.if-x-eq0.false in let b = c.copy_tree-a.ensures c.requires.0 c.requires.1 c.requires.2 q in (omega (arith, less1 a c.node_at-x.ensures c.if-x-eq0.false b c.if-x-eq1.false), (c.requires.0, c.requires.1, c.requires.2, asks1 a c.node_at-x.ensures c.if-x-eq0.false b c.if-x-eq1.false))

pub preceding-c1-requires : goal.preceding-c1-requires
preceding-c1-requires t c = let P = c.requires in let a = P.3 in let b = c.copy_tree-a.ensures P.0 P.1 P.2 (asks0 a c.node_at-x.ensures c.if-x-eq0.false) in before1 a c.node_at-x.ensures c.if-x-eq0.false b c.if-x-eq1.false (c.copy_tree-b.ensures P.0 P.1 P.2 (asks1 a c.node_at-x.ensures c.if-x-eq0.false b c.if-x-eq1.false))

pub append-requires-then-x-eq2 : goal.append-requires-then-x-eq2
append-requires-then-x-eq2 t c = let P = c.requires in let a = P.3 in let b = c.copy_tree-a.ensures P.0 P.1 P.2 (asks0 a c.node_at-x.ensures c.if-x-eq0.false) in room1 a c.node_at-x.ensures c.if-x-eq0.false b c.if-x-eq1.false (c.copy_tree-b.ensures P.0 P.1 P.2 (asks1 a c.node_at-x.ensures c.if-x-eq0.false b c.if-x-eq1.false))

pub returns-then-x-eq2 : goal.returns-then-x-eq2
returns-then-x-eq2 t c = λ x n m a. let b = c.copy_tree-a.ensures x n m (asks0 a c.node_at-x.ensures c.if-x-eq0.false) in two-given a c.node_at-x.ensures c.if-x-eq0.false b c.if-x-eq1.false (c.copy_tree-b.ensures x n m (asks1 a c.node_at-x.ensures c.if-x-eq0.false b c.if-x-eq1.false)) c.if-x-eq2.true c.preceding-c0.ensures c.preceding-c1.ensures c.with_children-then-x-eq2.ensures c.append-then-x-eq2.ensures

pub copy_tree-c-requires : goal.copy_tree-c-requires
copy_tree-c-requires t c = let a = c.requires.3 in let b = c.copy_tree-a.ensures c.requires.0 c.requires.1 c.requires.2 (asks0 a c.node_at-x.ensures c.if-x-eq0.false) in let d = c.copy_tree-b.ensures c.requires.0 c.requires.1 c.requires.2 (asks1 a c.node_at-x.ensures c.if-x-eq0.false b c.if-x-eq1.false) in (omega (arith, less2 a c.node_at-x.ensures c.if-x-eq0.false b c.if-x-eq1.false d c.if-x-eq2.false), (c.requires.0, c.requires.1, c.requires.2, asks2 a c.node_at-x.ensures c.if-x-eq0.false b c.if-x-eq1.false d c.if-x-eq2.false))

pub preceding-requires : goal.preceding-requires
preceding-requires t c = let P = c.requires in let a = P.3 in let b = c.copy_tree-a.ensures P.0 P.1 P.2 (asks0 a c.node_at-x.ensures c.if-x-eq0.false) in let d = c.copy_tree-b.ensures P.0 P.1 P.2 (asks1 a c.node_at-x.ensures c.if-x-eq0.false b c.if-x-eq1.false) in before2 a c.node_at-x.ensures c.if-x-eq0.false b c.if-x-eq1.false d c.if-x-eq2.false (c.copy_tree-c.ensures P.0 P.1 P.2 (asks2 a c.node_at-x.ensures c.if-x-eq0.false b c.if-x-eq1.false d c.if-x-eq2.false))

pub append-requires-2 : goal.append-requires-2
append-requires-2 t c = let P = c.requires in let a = P.3 in let b = c.copy_tree-a.ensures P.0 P.1 P.2 (asks0 a c.node_at-x.ensures c.if-x-eq0.false) in let d = c.copy_tree-b.ensures P.0 P.1 P.2 (asks1 a c.node_at-x.ensures c.if-x-eq0.false b c.if-x-eq1.false) in room2 a c.node_at-x.ensures c.if-x-eq0.false b c.if-x-eq1.false d c.if-x-eq2.false (c.copy_tree-c.ensures P.0 P.1 P.2 (asks2 a c.node_at-x.ensures c.if-x-eq0.false b c.if-x-eq1.false d c.if-x-eq2.false))

pub returns : goal.returns
returns t c = λ x n m a. let b = c.copy_tree-a.ensures x n m (asks0 a c.node_at-x.ensures c.if-x-eq0.false) in let d = c.copy_tree-b.ensures x n m (asks1 a c.node_at-x.ensures c.if-x-eq0.false b c.if-x-eq1.false) in three-given a c.node_at-x.ensures c.if-x-eq0.false b c.if-x-eq1.false d c.if-x-eq2.false (c.copy_tree-c.ensures x n m (asks2 a c.node_at-x.ensures c.if-x-eq0.false b c.if-x-eq1.false d c.if-x-eq2.false)) c.preceding-c0.ensures c.preceding-c1.ensures c.preceding.ensures c.with_children-2.ensures c.append-2.ensures
