-- `constraint_pool::join::add_member` meets its contract: each need is one lemma of proofs/Joins.antt.
-- Assumes nothing.
use native.Mathlib.Omega.{arith}
use mathlib.Core.Path.{refl}
use Rattle.constraint_pool.proofs.Joins.{scale-asks, own-number, copy-asks, column-number, column-room, member-given}
use Rattle.constraint_pool.proofs.join.add_member.Goals as goal

pub scale-own-requires : goal.scale-own-requires
scale-own-requires c = scale-asks c.requires.3

pub preceding-product-requires : goal.preceding-product-requires
preceding-product-requires c = own-number c.requires.3 c.scale-own.ensures

pub copy_tree-column-requires : goal.copy_tree-column-requires
copy_tree-column-requires c = let P = c.requires in (P.0, P.1, P.2, copy-asks P.3 c.scale-own.ensures)

pub preceding-body-requires : goal.preceding-body-requires
preceding-body-requires c = let P = c.requires in column-number P.3 c.scale-own.ensures (c.copy_tree-column.ensures P.0 P.1 P.2 (copy-asks P.3 c.scale-own.ensures))

pub append-difference-requires : goal.append-difference-requires
append-difference-requires c = let P = c.requires in omega (arith, column-room P.3 c.scale-own.ensures (c.copy_tree-column.ensures P.0 P.1 P.2 (copy-asks P.3 c.scale-own.ensures)))

pub overflow_cast-column : goal.overflow_cast-column
overflow_cast-column c = let P = c.requires in omega (arith, column-room P.3 c.scale-own.ensures (c.copy_tree-column.ensures P.0 P.1 P.2 (copy-asks P.3 c.scale-own.ensures)))

pub append-sum-requires : goal.append-sum-requires
append-sum-requires c = let P = c.requires in omega (arith, column-room P.3 c.scale-own.ensures (c.copy_tree-column.ensures P.0 P.1 P.2 (copy-asks P.3 c.scale-own.ensures)), c.append-difference.ensures.next)

pub overflow_cast-difference : goal.overflow_cast-difference
overflow_cast-difference c = let P = c.requires in omega (arith, column-room P.3 c.scale-own.ensures (c.copy_tree-column.ensures P.0 P.1 P.2 (copy-asks P.3 c.scale-own.ensures)), c.append-difference.ensures.next)

pub append-requires : goal.append-requires
append-requires c = let P = c.requires in omega (arith, column-room P.3 c.scale-own.ensures (c.copy_tree-column.ensures P.0 P.1 P.2 (copy-asks P.3 c.scale-own.ensures)), c.append-difference.ensures.next, c.append-sum.ensures.next)

pub returns : goal.returns
returns c = λ x n m a. member-given a c.scale-own.ensures (c.copy_tree-column.ensures x n m (copy-asks a c.scale-own.ensures)) c.preceding-product.ensures c.preceding-body.ensures refl refl c.leaf.ensures c.pair.ensures c.pair-2.ensures c.append-difference.ensures c.append-sum.ensures c.append.ensures
