-- `constraint_lists::write::write_list` meets its contract: each need is one lemma of proofs/Coded.antt.
-- Assumes nothing.
use native.Mathlib.Omega.{arith}
use Rattle.constraint_lists.proofs.Coded.{sums, code-make, code_put, code-copies, code-store, code-written}
use Rattle.constraint_lists.proofs.write.write_list.Goals as goal

pub blocks_of-blocks-requires : goal.blocks_of-blocks-requires
blocks_of-blocks-requires c = c.requires.3.planned.commit.good.head.size

pub steps_of-at-requires : goal.steps_of-at-requires
steps_of-at-requires c = c.requires.3.planned.commit.good.head.size

pub temporaries_of-t-requires : goal.temporaries_of-t-requires
temporaries_of-t-requires c = c.requires.3.planned.commit.good.head.size

pub size_all-own-requires : goal.size_all-own-requires
size_all-own-requires c = let P = c.requires in (P.0, P.1, P.3.planned.commit.jobs)

pub make_all-requires : goal.make_all-requires
make_all-requires c = let P = c.requires in let Z = c.size_all-own.ensures P.0 P.1 P.3.planned.commit.jobs in (P.0, P.1, P.3.planned.commit.jobs, code-make P.3 Z c.blocks_of-blocks.ensures c.steps_of-at.ensures c.temporaries_of-t.ensures)

pub overflow_add-at : goal.overflow_add-at
overflow_add-at c = let P = c.requires in let Z = c.size_all-own.ensures P.0 P.1 P.3.planned.commit.jobs in let S = sums P.3.planned Z c.args.closes c.blocks_of-blocks.ensures c.steps_of-at.ensures c.temporaries_of-t.ensures in omega (arith, S.0, S.1, S.2, S.3)

pub overflow_add-blocks : goal.overflow_add-blocks
overflow_add-blocks c = let P = c.requires in let Z = c.size_all-own.ensures P.0 P.1 P.3.planned.commit.jobs in let S = sums P.3.planned Z c.args.closes c.blocks_of-blocks.ensures c.steps_of-at.ensures c.temporaries_of-t.ensures in omega (arith, S.0, S.1, S.2, S.3)

pub close_list-requires : goal.close_list-requires
close_list-requires c = let P = c.requires in let Z = c.size_all-own.ensures P.0 P.1 P.3.planned.commit.jobs in code_put P.3 Z c.blocks_of-blocks.ensures c.steps_of-at.ensures c.temporaries_of-t.ensures (c.make_all.ensures P.0 P.1 P.3.planned.commit.jobs (code-make P.3 Z c.blocks_of-blocks.ensures c.steps_of-at.ensures c.temporaries_of-t.ensures))

pub overflow_add-blocks-2 : goal.overflow_add-blocks-2
overflow_add-blocks-2 c = let P = c.requires in let Z = c.size_all-own.ensures P.0 P.1 P.3.planned.commit.jobs in let S = sums P.3.planned Z c.args.closes c.blocks_of-blocks.ensures c.steps_of-at.ensures c.temporaries_of-t.ensures in omega (arith, S.0, S.1, S.2, S.3)

pub copy_lists-requires : goal.copy_lists-requires
copy_lists-requires c = let P = c.requires in let Z = c.size_all-own.ensures P.0 P.1 P.3.planned.commit.jobs in code-copies P.3 Z c.blocks_of-blocks.ensures c.steps_of-at.ensures c.temporaries_of-t.ensures (c.make_all.ensures P.0 P.1 P.3.planned.commit.jobs (code-make P.3 Z c.blocks_of-blocks.ensures c.steps_of-at.ensures c.temporaries_of-t.ensures)) c.close_list.ensures

pub mark_released-requires : goal.mark_released-requires
mark_released-requires c = let P = c.requires in omega (arith, P.3.planned.expressions, P.3.planned.commit.jobs.world.few)

pub overflow_sub-own : goal.overflow_sub-own
overflow_sub-own c = let P = c.requires in let Z = c.size_all-own.ensures P.0 P.1 P.3.planned.commit.jobs in let S = sums P.3.planned Z c.args.closes c.blocks_of-blocks.ensures c.steps_of-at.ensures c.temporaries_of-t.ensures in omega (arith, S.0, S.1, S.2, S.3)

pub overflow_add-t : goal.overflow_add-t
overflow_add-t c = let P = c.requires in let Z = c.size_all-own.ensures P.0 P.1 P.3.planned.commit.jobs in let S = sums P.3.planned Z c.args.closes c.blocks_of-blocks.ensures c.steps_of-at.ensures c.temporaries_of-t.ensures in omega (arith, S.0, S.1, S.2, S.3)

pub store-requires : goal.store-requires
store-requires c = let P = c.requires in let Z = c.size_all-own.ensures P.0 P.1 P.3.planned.commit.jobs in code-store P.3 Z c.blocks_of-blocks.ensures c.steps_of-at.ensures c.temporaries_of-t.ensures (c.make_all.ensures P.0 P.1 P.3.planned.commit.jobs (code-make P.3 Z c.blocks_of-blocks.ensures c.steps_of-at.ensures c.temporaries_of-t.ensures)) c.close_list.ensures c.mark_released.ensures

pub shape_of-context : goal.shape_of-context
shape_of-context c = let P = c.requires in let Z = c.size_all-own.ensures P.0 P.1 P.3.planned.commit.jobs in let S = sums P.3.planned Z c.args.closes c.blocks_of-blocks.ensures c.steps_of-at.ensures c.temporaries_of-t.ensures in omega (arith, S.0, S.1, S.2, S.3)

pub shape_of-list : goal.shape_of-list
shape_of-list c = let P = c.requires in let Z = c.size_all-own.ensures P.0 P.1 P.3.planned.commit.jobs in let S = sums P.3.planned Z c.args.closes c.blocks_of-blocks.ensures c.steps_of-at.ensures c.temporaries_of-t.ensures in omega (arith, S.0, S.1, S.2, S.3)

pub shape_of-first : goal.shape_of-first
shape_of-first c = let P = c.requires in let Z = c.size_all-own.ensures P.0 P.1 P.3.planned.commit.jobs in let S = sums P.3.planned Z c.args.closes c.blocks_of-blocks.ensures c.steps_of-at.ensures c.temporaries_of-t.ensures in omega (arith, S.0, S.1, S.2, S.3)

pub shape_of-i : goal.shape_of-i
shape_of-i c = let P = c.requires in let Z = c.size_all-own.ensures P.0 P.1 P.3.planned.commit.jobs in let S = sums P.3.planned Z c.args.closes c.blocks_of-blocks.ensures c.steps_of-at.ensures c.temporaries_of-t.ensures in omega (arith, S.0, S.1, S.2, S.3)

pub shape_of-last : goal.shape_of-last
shape_of-last c = let P = c.requires in let Z = c.size_all-own.ensures P.0 P.1 P.3.planned.commit.jobs in let S = sums P.3.planned Z c.args.closes c.blocks_of-blocks.ensures c.steps_of-at.ensures c.temporaries_of-t.ensures in omega (arith, S.0, S.1, S.2, S.3)

pub returns : goal.returns
returns c = λ b js t₀ q. let Z = c.size_all-own.ensures b js q.planned.commit.jobs in code-written q Z c.blocks_of-blocks.ensures c.steps_of-at.ensures c.temporaries_of-t.ensures (c.make_all.ensures b js q.planned.commit.jobs (code-make q Z c.blocks_of-blocks.ensures c.steps_of-at.ensures c.temporaries_of-t.ensures)) c.close_list.ensures c.mark_released.ensures c.copy_lists.ensures c.store.ensures
