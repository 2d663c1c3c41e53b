-- `codegen::commit::commit_result` meets its contract: each need is one lemma of proofs/Coded.antt.
-- Assumes nothing.
use mathlib.Core.Path.{sym, ◌∙◌}
use Prim.Native.Nat.{◌/◌, ◌%◌}
use native.Mathlib.Omega.{arith}
use Rattle.kinds.specs.References.{blank_ref}
use Rattle.codegen.proofs.Coded.{row_low, cell-split, sizes, code-place, code-nothing, code-over, result-room, code_put, code-stored, code-copied}
use Rattle.codegen.proofs.commit.commit_result.Goals as goal

pub blocks_of-blocks-requires : goal.blocks_of-blocks-requires
blocks_of-blocks-requires c = c.requires.2.good.head.size

pub steps_of-at-requires : goal.steps_of-at-requires
steps_of-at-requires c = c.requires.2.good.head.size

pub temporaries_of-t-requires : goal.temporaries_of-t-requires
temporaries_of-t-requires c = c.requires.2.good.head.size

pub size_all-steps-requires : goal.size_all-steps-requires
size_all-steps-requires c = (c.requires.0, c.requires.1, c.requires.2.jobs)

pub place_all-requires : goal.place_all-requires
place_all-requires c = let P = c.requires in (P.0, P.1, code-place P.2 (c.size_all-steps.ensures P.0 P.1 P.2.jobs) c.blocks_of-blocks.ensures c.steps_of-at.ensures c.temporaries_of-t.ensures)

pub overflow_add-blocks : goal.overflow_add-blocks
overflow_add-blocks c = let P = c.requires in omega (arith, (sizes P.2 (c.size_all-steps.ensures P.0 P.1 P.2.jobs) c.blocks_of-blocks.ensures c.steps_of-at.ensures c.temporaries_of-t.ensures).3)

pub find_block-requires : goal.find_block-requires
find_block-requires c = let P = c.requires in omega (arith, (sizes P.2 (c.size_all-steps.ensures P.0 P.1 P.2.jobs) c.blocks_of-blocks.ensures c.steps_of-at.ensures c.temporaries_of-t.ensures).3)

pub overflow_add-at : goal.overflow_add-at
overflow_add-at c = let P = c.requires in omega (arith, (sizes P.2 (c.size_all-steps.ensures P.0 P.1 P.2.jobs) c.blocks_of-blocks.ensures c.steps_of-at.ensures c.temporaries_of-t.ensures).1)

pub overflow_add-at-2 : goal.overflow_add-at-2
overflow_add-at-2 c = let P = c.requires in omega (arith, (sizes P.2 (c.size_all-steps.ensures P.0 P.1 P.2.jobs) c.blocks_of-blocks.ensures c.steps_of-at.ensures c.temporaries_of-t.ensures).1)

pub overflow_sub-steps : goal.overflow_sub-steps
overflow_sub-steps c = let P = c.requires in omega (arith, (sizes P.2 (c.size_all-steps.ensures P.0 P.1 P.2.jobs) c.blocks_of-blocks.ensures c.steps_of-at.ensures c.temporaries_of-t.ensures).0)

pub overflow_add-t : goal.overflow_add-t
overflow_add-t c = let P = c.requires in omega (arith, (sizes P.2 (c.size_all-steps.ensures P.0 P.1 P.2.jobs) c.blocks_of-blocks.ensures c.steps_of-at.ensures c.temporaries_of-t.ensures).2)

pub has_room-requires : goal.has_room-requires
has_room-requires c = let P = c.requires in omega (arith, (sizes P.2 (c.size_all-steps.ensures P.0 P.1 P.2.jobs) c.blocks_of-blocks.ensures c.steps_of-at.ensures c.temporaries_of-t.ensures).1)

pub returns-then-not-has_room : goal.returns-then-not-has_room
returns-then-not-has_room c = λ b js e row a low is. rw c.into-then-not-has_room.ensures (let Z = c.size_all-steps.ensures b js a.jobs in code-over a Z c.blocks_of-blocks.ensures c.steps_of-at.ensures c.temporaries_of-t.ensures (c.place_all.ensures b js (code-place a Z c.blocks_of-blocks.ensures c.steps_of-at.ensures c.temporaries_of-t.ensures)) e row _ low is c.find_block.ensures c.in-Some.is (sym c.has_room.ensures ∙ c.if-not-has_room.true))

pub make_all-requires : goal.make_all-requires
make_all-requires c = let P = c.requires in let Z = c.size_all-steps.ensures P.0 P.1 P.2.jobs in let p = c.place_all.ensures P.0 P.1 (code-place P.2 Z c.blocks_of-blocks.ensures c.steps_of-at.ensures c.temporaries_of-t.ensures) in let o = sym c.has_room.ensures ∙ c.if-not-has_room.false in (P.0, P.1, P.2.jobs, result-room P.2 Z c.blocks_of-blocks.ensures c.steps_of-at.ensures c.temporaries_of-t.ensures p (c.args.cell / 2) (c.args.cell % 2) blank_ref (row_low _) (cell-split _) c.find_block.ensures c.in-Some.is o)

pub overflow_add-at-3 : goal.overflow_add-at-3
overflow_add-at-3 c = let P = c.requires in omega (arith, (sizes P.2 (c.size_all-steps.ensures P.0 P.1 P.2.jobs) c.blocks_of-blocks.ensures c.steps_of-at.ensures c.temporaries_of-t.ensures).1)

pub put_result-requires : goal.put_result-requires
put_result-requires c = let P = c.requires in let Z = c.size_all-steps.ensures P.0 P.1 P.2.jobs in let p = c.place_all.ensures P.0 P.1 (code-place P.2 Z c.blocks_of-blocks.ensures c.steps_of-at.ensures c.temporaries_of-t.ensures) in let o = sym c.has_room.ensures ∙ c.if-not-has_room.false in code_put P.2 Z c.blocks_of-blocks.ensures c.steps_of-at.ensures c.temporaries_of-t.ensures p (c.args.cell / 2) (c.args.cell % 2) blank_ref (row_low _) (cell-split _) c.find_block.ensures c.in-Some.is o (c.make_all.ensures P.0 P.1 P.2.jobs (result-room P.2 Z c.blocks_of-blocks.ensures c.steps_of-at.ensures c.temporaries_of-t.ensures p (c.args.cell / 2) (c.args.cell % 2) blank_ref (row_low _) (cell-split _) c.find_block.ensures c.in-Some.is o))

pub overflow_add-blocks-2 : goal.overflow_add-blocks-2
overflow_add-blocks-2 c = let P = c.requires in omega (arith, (sizes P.2 (c.size_all-steps.ensures P.0 P.1 P.2.jobs) c.blocks_of-blocks.ensures c.steps_of-at.ensures c.temporaries_of-t.ensures).3)

pub overflow_add-at-4 : goal.overflow_add-at-4
overflow_add-at-4 c = let P = c.requires in omega (arith, (sizes P.2 (c.size_all-steps.ensures P.0 P.1 P.2.jobs) c.blocks_of-blocks.ensures c.steps_of-at.ensures c.temporaries_of-t.ensures).1)

pub overflow_add-at-5 : goal.overflow_add-at-5
overflow_add-at-5 c = let P = c.requires in omega (arith, (sizes P.2 (c.size_all-steps.ensures P.0 P.1 P.2.jobs) c.blocks_of-blocks.ensures c.steps_of-at.ensures c.temporaries_of-t.ensures).1)

pub overflow_sub-steps-2 : goal.overflow_sub-steps-2
overflow_sub-steps-2 c = let P = c.requires in omega (arith, (sizes P.2 (c.size_all-steps.ensures P.0 P.1 P.2.jobs) c.blocks_of-blocks.ensures c.steps_of-at.ensures c.temporaries_of-t.ensures).0)

pub overflow_add-t-2 : goal.overflow_add-t-2
overflow_add-t-2 c = let P = c.requires in omega (arith, (sizes P.2 (c.size_all-steps.ensures P.0 P.1 P.2.jobs) c.blocks_of-blocks.ensures c.steps_of-at.ensures c.temporaries_of-t.ensures).2)

pub store-requires : goal.store-requires
store-requires c = let P = c.requires in let Z = c.size_all-steps.ensures P.0 P.1 P.2.jobs in let p = c.place_all.ensures P.0 P.1 (code-place P.2 Z c.blocks_of-blocks.ensures c.steps_of-at.ensures c.temporaries_of-t.ensures) in let o = sym c.has_room.ensures ∙ c.if-not-has_room.false in code-stored P.2 Z c.blocks_of-blocks.ensures c.steps_of-at.ensures c.temporaries_of-t.ensures p (c.args.cell / 2) (c.args.cell % 2) blank_ref (row_low _) (cell-split _) c.find_block.ensures c.in-Some.is o c.put_result.ensures.0

pub returns-in_default : goal.returns-in_default
returns-in_default c = λ b js e row a low is. rw c.into.ensures (let Z = c.size_all-steps.ensures b js a.jobs in code-nothing a Z c.blocks_of-blocks.ensures c.steps_of-at.ensures c.temporaries_of-t.ensures (c.place_all.ensures b js (code-place a Z c.blocks_of-blocks.ensures c.steps_of-at.ensures c.temporaries_of-t.ensures)) e row _ low is c.find_block.ensures c.in_default.is)

pub returns : goal.returns
returns c = λ b js e row a low is. let Z = c.size_all-steps.ensures b js a.jobs in let p = c.place_all.ensures b js (code-place a Z c.blocks_of-blocks.ensures c.steps_of-at.ensures c.temporaries_of-t.ensures) in let o = sym c.has_room.ensures ∙ c.if-not-has_room.false in code-copied a Z c.blocks_of-blocks.ensures c.steps_of-at.ensures c.temporaries_of-t.ensures p e row _ low is c.find_block.ensures c.in-Some.is o (c.make_all.ensures b js a.jobs (result-room a Z c.blocks_of-blocks.ensures c.steps_of-at.ensures c.temporaries_of-t.ensures p e row blank_ref low is c.find_block.ensures c.in-Some.is o)) c.put_result.ensures.0 c.put_result.ensures.1 c.store.ensures
