-- `full_degrees::table::tree_degree` and `node_degree` meet their contracts: each need is one lemma of proofs/Nodes.antt. The measure is the levels that are left,
-- then the node. Assumes nothing.
use mathlib.Core.Path.{refl}
use mathlib.Core.Logic.{inl, inr}
use native.Mathlib.Omega.{arith}
use Rattle.full_degrees.proofs.Nodes.{inside, part-asks, part_less, leaf-gives, exp-room, some-levels, body-asks, body_less, body-gives, left-part, right-part, only_part, first_part, second-part, third-part, single-gives, sum-gives, mul-gives, muladd-gives, seen-gives, store-gives}
use Rattle.full_degrees.proofs.table.+node_degree_tree_degree.Goals as goal
use Rattle.full_degrees.proofs.table.+node_degree_tree_degree.Goals.{node_degree-in_default-via-then-kind-lt1, node_degree-in_default-via-else-kind-lt1+else-kind-lt3+else-kind-lt8}

pub node_degree-kind_at-kind-requires : goal.node_degree-kind_at-kind-requires
node_degree-kind_at-kind-requires t c = inside c.requires.4

pub node_degree-id-requires : goal.node_degree-id-requires
node_degree-id-requires t c = inside c.requires.4

pub node_degree-root-body-requires : goal.node_degree-root-body-requires
node_degree-root-body-requires t c = exp-room c.requires.4 c.kind_at-kind.ensures c.in-18.is c.id.ensures

pub node_degree-overflow_sub-levels : goal.node_degree-overflow_sub-levels
node_degree-overflow_sub-levels t c = some-levels c.requires.4 c.kind_at-kind.ensures c.in-18.is c.id.ensures

pub node_degree-tree_degree-requires : goal.node_degree-tree_degree-requires
node_degree-tree_degree-requires t c = let a = c.requires.4 in (omega (arith, body_less a c.kind_at-kind.ensures c.in-18.is c.id.ensures c.root-body.ensures), (c.requires.0, c.requires.1, c.requires.2, c.requires.3, body-asks a c.kind_at-kind.ensures c.in-18.is c.id.ensures c.root-body.ensures))

pub node_degree-child-requires : goal.node_degree-child-requires
node_degree-child-requires t c = inside c.requires.4

pub node_degree-tree_degree-a-requires : goal.node_degree-tree_degree-a-requires
node_degree-tree_degree-a-requires t c = let a = c.requires.4 in let l = c.requires.0 in let n = c.requires.1 in let m = c.requires.2 in let rank = c.requires.3 in let b = left-part a c.kind_at-kind.ensures (omega (arith, c.in-3.is)) (omega (arith, c.in-3.is)) c.child.ensures in (omega (arith, part_less a b), (l, n, m, rank, part-asks a a.sound b))

pub node_degree-child-requires-in-3 : goal.node_degree-child-requires-in-3
node_degree-child-requires-in-3 t c = inside c.requires.4

pub node_degree-tree_degree-b-requires : goal.node_degree-tree_degree-b-requires
node_degree-tree_degree-b-requires t c = let a = c.requires.4 in let l = c.requires.0 in let n = c.requires.1 in let m = c.requires.2 in let rank = c.requires.3 in let b = right-part a c.kind_at-kind.ensures (omega (arith, c.in-3.is)) (omega (arith, c.in-3.is)) c.child-in-3.ensures in (omega (arith, part_less a b), (l, n, m, rank, part-asks a (c.tree_degree-a.ensures l n m rank (part-asks a a.sound (left-part a c.kind_at-kind.ensures (omega (arith, c.in-3.is)) (omega (arith, c.in-3.is)) c.child.ensures))).gives.sound b))

pub node_degree-child-requires-in-4 : goal.node_degree-child-requires-in-4
node_degree-child-requires-in-4 t c = inside c.requires.4

pub node_degree-tree_degree-a-requires-in-4 : goal.node_degree-tree_degree-a-requires-in-4
node_degree-tree_degree-a-requires-in-4 t c = let a = c.requires.4 in let l = c.requires.0 in let n = c.requires.1 in let m = c.requires.2 in let rank = c.requires.3 in let b = first_part a c.kind_at-kind.ensures c.in-4.is c.child-in-4.ensures in (omega (arith, part_less a b), (l, n, m, rank, part-asks a a.sound b))

pub node_degree-child-requires-in-4-2 : goal.node_degree-child-requires-in-4-2
node_degree-child-requires-in-4-2 t c = inside c.requires.4

pub node_degree-tree_degree-b-requires-in-4 : goal.node_degree-tree_degree-b-requires-in-4
node_degree-tree_degree-b-requires-in-4 t c = let a = c.requires.4 in let l = c.requires.0 in let n = c.requires.1 in let m = c.requires.2 in let rank = c.requires.3 in let b = second-part a c.kind_at-kind.ensures c.in-4.is c.child-in-4-2.ensures in (omega (arith, part_less a b), (l, n, m, rank, part-asks a (c.tree_degree-a-in-4.ensures l n m rank (part-asks a a.sound (first_part a c.kind_at-kind.ensures c.in-4.is c.child-in-4.ensures))).gives.sound b))

pub node_degree-child-requires-in-4-3 : goal.node_degree-child-requires-in-4-3
node_degree-child-requires-in-4-3 t c = inside c.requires.4

pub node_degree-tree_degree-c-requires : goal.node_degree-tree_degree-c-requires
node_degree-tree_degree-c-requires t c = let a = c.requires.4 in let l = c.requires.0 in let n = c.requires.1 in let m = c.requires.2 in let rank = c.requires.3 in let b = third-part a c.kind_at-kind.ensures c.in-4.is c.child-in-4-3.ensures in (omega (arith, part_less a b), (l, n, m, rank, part-asks a (c.tree_degree-b-in-4.ensures l n m rank (part-asks a (c.tree_degree-a-in-4.ensures l n m rank (part-asks a a.sound (first_part a c.kind_at-kind.ensures c.in-4.is c.child-in-4.ensures))).gives.sound (second-part a c.kind_at-kind.ensures c.in-4.is c.child-in-4-2.ensures))).gives.sound b))

pub node_degree-child-requires-in-1-to-2 : goal.node_degree-child-requires-in-1-to-2
node_degree-child-requires-in-1-to-2 t c = inside c.requires.4

pub node_degree-tree_degree-a-requires-in-1-to-2 : goal.node_degree-tree_degree-a-requires-in-1-to-2
node_degree-tree_degree-a-requires-in-1-to-2 t c = let a = c.requires.4 in let l = c.requires.0 in let n = c.requires.1 in let m = c.requires.2 in let rank = c.requires.3 in let b = left-part a c.kind_at-kind.ensures c.in-1-to-2.if-kind-lt1-own.false (omega (arith, c.in-1-to-2.if-kind-lt3-own.true)) c.child-in-1-to-2.ensures in (omega (arith, part_less a b), (l, n, m, rank, part-asks a a.sound b))

pub node_degree-child-requires-in-1-to-2-2 : goal.node_degree-child-requires-in-1-to-2-2
node_degree-child-requires-in-1-to-2-2 t c = inside c.requires.4

pub node_degree-tree_degree-b-requires-in-1-to-2 : goal.node_degree-tree_degree-b-requires-in-1-to-2
node_degree-tree_degree-b-requires-in-1-to-2 t c = let a = c.requires.4 in let l = c.requires.0 in let n = c.requires.1 in let m = c.requires.2 in let rank = c.requires.3 in let b = right-part a c.kind_at-kind.ensures c.in-1-to-2.if-kind-lt1-own.false (omega (arith, c.in-1-to-2.if-kind-lt3-own.true)) c.child-in-1-to-2-2.ensures in (omega (arith, part_less a b), (l, n, m, rank, part-asks a (c.tree_degree-a-in-1-to-2.ensures l n m rank (part-asks a a.sound (left-part a c.kind_at-kind.ensures c.in-1-to-2.if-kind-lt1-own.false (omega (arith, c.in-1-to-2.if-kind-lt3-own.true)) c.child-in-1-to-2.ensures))).gives.sound b))

pub node_degree-child-requires-in-5-to-7 : goal.node_degree-child-requires-in-5-to-7
node_degree-child-requires-in-5-to-7 t c = inside c.requires.4

pub node_degree-tree_degree-a-requires-in-5-to-7 : goal.node_degree-tree_degree-a-requires-in-5-to-7
node_degree-tree_degree-a-requires-in-5-to-7 t c = let a = c.requires.4 in let l = c.requires.0 in let n = c.requires.1 in let m = c.requires.2 in let rank = c.requires.3 in let b = only_part a c.kind_at-kind.ensures (omega (arith, c.in-5-to-7.if-kind-lt3-own.false, c.in-5-to-7.in_default-own.rest.0.1, c.in-5-to-7.in_default-own.rest.1)) (omega (arith, c.in-5-to-7.if-kind-lt8-own.true)) c.child-in-5-to-7.ensures in (omega (arith, part_less a b), (l, n, m, rank, part-asks a a.sound b))

pub node_degree-returns-in-18 : goal.node_degree-returns-in-18
node_degree-returns-in-18 t c = λ l n m rank a. body-gives a c.kind_at-kind.ensures c.in-18.is c.id.ensures c.root-body.ensures (c.tree_degree.ensures l n m rank (body-asks a c.kind_at-kind.ensures c.in-18.is c.id.ensures c.root-body.ensures))

pub node_degree-returns-in-3 : goal.node_degree-returns-in-3
node_degree-returns-in-3 t c = λ l n m rank a. mul-gives a c.kind_at-kind.ensures c.child.ensures c.child-in-3.ensures (c.tree_degree-a.ensures l n m rank (part-asks a a.sound (left-part a c.kind_at-kind.ensures (omega (arith, c.in-3.is)) (omega (arith, c.in-3.is)) c.child.ensures))) (c.tree_degree-b.ensures l n m rank (part-asks a (c.tree_degree-a.ensures l n m rank (part-asks a a.sound (left-part a c.kind_at-kind.ensures (omega (arith, c.in-3.is)) (omega (arith, c.in-3.is)) c.child.ensures))).gives.sound (right-part a c.kind_at-kind.ensures (omega (arith, c.in-3.is)) (omega (arith, c.in-3.is)) c.child-in-3.ensures))) c.in-3.is c.times.ensures

pub node_degree-returns-in-4 : goal.node_degree-returns-in-4
node_degree-returns-in-4 t c = λ l n m rank a. muladd-gives a c.kind_at-kind.ensures c.child-in-4.ensures c.child-in-4-2.ensures (c.tree_degree-a-in-4.ensures l n m rank (part-asks a a.sound (first_part a c.kind_at-kind.ensures c.in-4.is c.child-in-4.ensures))) (c.tree_degree-b-in-4.ensures l n m rank (part-asks a (c.tree_degree-a-in-4.ensures l n m rank (part-asks a a.sound (first_part a c.kind_at-kind.ensures c.in-4.is c.child-in-4.ensures))).gives.sound (second-part a c.kind_at-kind.ensures c.in-4.is c.child-in-4-2.ensures))) c.in-4.is c.child-in-4-3.ensures (c.tree_degree-c.ensures l n m rank (part-asks a (c.tree_degree-b-in-4.ensures l n m rank (part-asks a (c.tree_degree-a-in-4.ensures l n m rank (part-asks a a.sound (first_part a c.kind_at-kind.ensures c.in-4.is c.child-in-4.ensures))).gives.sound (second-part a c.kind_at-kind.ensures c.in-4.is c.child-in-4-2.ensures))).gives.sound (third-part a c.kind_at-kind.ensures c.in-4.is c.child-in-4-3.ensures))) c.times-in-4.ensures c.max.ensures

pub node_degree-returns-in-1-to-2 : goal.node_degree-returns-in-1-to-2
node_degree-returns-in-1-to-2 t c = λ l n m rank a. sum-gives a c.kind_at-kind.ensures c.child-in-1-to-2.ensures c.child-in-1-to-2-2.ensures (c.tree_degree-a-in-1-to-2.ensures l n m rank (part-asks a a.sound (left-part a c.kind_at-kind.ensures c.in-1-to-2.if-kind-lt1-own.false (omega (arith, c.in-1-to-2.if-kind-lt3-own.true)) c.child-in-1-to-2.ensures))) (c.tree_degree-b-in-1-to-2.ensures l n m rank (part-asks a (c.tree_degree-a-in-1-to-2.ensures l n m rank (part-asks a a.sound (left-part a c.kind_at-kind.ensures c.in-1-to-2.if-kind-lt1-own.false (omega (arith, c.in-1-to-2.if-kind-lt3-own.true)) c.child-in-1-to-2.ensures))).gives.sound (right-part a c.kind_at-kind.ensures c.in-1-to-2.if-kind-lt1-own.false (omega (arith, c.in-1-to-2.if-kind-lt3-own.true)) c.child-in-1-to-2-2.ensures))) c.in-1-to-2.if-kind-lt1-own.false (omega (arith, c.in-1-to-2.if-kind-lt3-own.true)) c.max-in-1-to-2.ensures c.max-in-1-to-2-2.ensures

pub node_degree-returns-in-5-to-7 : goal.node_degree-returns-in-5-to-7
node_degree-returns-in-5-to-7 t c = λ l n m rank a. single-gives a c.kind_at-kind.ensures (omega (arith, c.in-5-to-7.if-kind-lt3-own.false, c.in-5-to-7.in_default-own.rest.0.1, c.in-5-to-7.in_default-own.rest.1)) (omega (arith, c.in-5-to-7.if-kind-lt8-own.true)) c.child-in-5-to-7.ensures (c.tree_degree-a-in-5-to-7.ensures l n m rank (part-asks a a.sound (only_part a c.kind_at-kind.ensures (omega (arith, c.in-5-to-7.if-kind-lt3-own.false, c.in-5-to-7.in_default-own.rest.0.1, c.in-5-to-7.in_default-own.rest.1)) (omega (arith, c.in-5-to-7.if-kind-lt8-own.true)) c.child-in-5-to-7.ensures))) c.max-in-5-to-7.ensures

pub node_degree-returns-in_default : goal.node_degree-returns-in_default
node_degree-returns-in_default t c = λ l n m rank a. elim c.in_default.branch [
  | node_degree-in_default-via-then-kind-lt1 w ↦ leaf-gives a c.kind_at-kind.ensures (inl (omega arith)) (omega arith) c.leaf_degree.ensures
  | node_degree-in_default-via-else-kind-lt1+else-kind-lt3+else-kind-lt8 w ↦ leaf-gives a c.kind_at-kind.ensures (inr (omega arith)) (omega arith) c.leaf_degree.ensures
]

pub tree_degree-bounds-full-i : goal.tree_degree-bounds-full-i
tree_degree-bounds-full-i t c = inside c.requires.4

pub tree_degree-returns-then-seen : goal.tree_degree-returns-then-seen
tree_degree-returns-then-seen t c = λ l n m rank a. seen-gives a refl c.if-seen.true

pub tree_degree-node_degree-degree-requires : goal.tree_degree-node_degree-degree-requires
tree_degree-node_degree-degree-requires t c = (omega (arith), c.requires)

pub tree_degree-bounds-full-i-2 : goal.tree_degree-bounds-full-i-2
tree_degree-bounds-full-i-2 t c = inside c.requires.4

pub tree_degree-returns : goal.tree_degree-returns
tree_degree-returns t c = λ l n m rank a. store-gives a (c.node_degree-degree.ensures l n m rank a)
