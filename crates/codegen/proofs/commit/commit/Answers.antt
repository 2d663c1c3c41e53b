-- `codegen::commit::commit` meets its contract: each need is one lemma of proofs/Coded.antt.
-- Assumes nothing.
use mathlib.Core.Path.{sym, ◌∙◌}
use native.Mathlib.Omega.{arith}
use Rattle.codegen.proofs.Coded.{sizes, code-place, code-full, plain-room, code-store, code-done}
use Rattle.codegen.proofs.commit.commit.Goals as goal

pub blocks_of-blocks-requires : goal.blocks_of-blocks-requires
blocks_of-blocks-requires c = c.requires.2.good.head.size

pub steps_of-at-requires : goal.steps_of-at-requires
steps_of-at-requires c = c.requires.2.good.head.size

pub temporaries_of-t-requires : goal.temporaries_of-t-requires
temporaries_of-t-requires c = c.requires.2.good.head.size

pub size_all-steps-requires : goal.size_all-steps-requires
size_all-steps-requires c = (c.requires.0, c.requires.1, c.requires.2.jobs)

pub overflow_add-at : goal.overflow_add-at
overflow_add-at c = let P = c.requires in omega (arith, (sizes P.2 (c.size_all-steps.ensures P.0 P.1 P.2.jobs) c.blocks_of-blocks.ensures c.steps_of-at.ensures c.temporaries_of-t.ensures).1)

pub overflow_sub-steps : goal.overflow_sub-steps
overflow_sub-steps c = let P = c.requires in omega (arith, (sizes P.2 (c.size_all-steps.ensures P.0 P.1 P.2.jobs) c.blocks_of-blocks.ensures c.steps_of-at.ensures c.temporaries_of-t.ensures).0)

pub overflow_add-t : goal.overflow_add-t
overflow_add-t c = let P = c.requires in omega (arith, (sizes P.2 (c.size_all-steps.ensures P.0 P.1 P.2.jobs) c.blocks_of-blocks.ensures c.steps_of-at.ensures c.temporaries_of-t.ensures).2)

pub has_room-requires : goal.has_room-requires
has_room-requires c = let P = c.requires in omega (arith, (sizes P.2 (c.size_all-steps.ensures P.0 P.1 P.2.jobs) c.blocks_of-blocks.ensures c.steps_of-at.ensures c.temporaries_of-t.ensures).1)

pub returns-then-not-has_room : goal.returns-then-not-has_room
returns-then-not-has_room c = λ b js a. rw c.into.ensures (code-full a (c.size_all-steps.ensures b js a.jobs) c.blocks_of-blocks.ensures c.steps_of-at.ensures c.temporaries_of-t.ensures (sym c.has_room.ensures ∙ c.if-not-has_room.true))

pub place_all-requires : goal.place_all-requires
place_all-requires c = let P = c.requires in (P.0, P.1, code-place P.2 (c.size_all-steps.ensures P.0 P.1 P.2.jobs) c.blocks_of-blocks.ensures c.steps_of-at.ensures c.temporaries_of-t.ensures)

pub make_all-requires : goal.make_all-requires
make_all-requires c = let P = c.requires in let Z = c.size_all-steps.ensures P.0 P.1 P.2.jobs in (P.0, P.1, P.2.jobs, plain-room P.2 Z c.blocks_of-blocks.ensures c.steps_of-at.ensures c.temporaries_of-t.ensures (sym c.has_room.ensures ∙ c.if-not-has_room.false) (c.place_all.ensures P.0 P.1 (code-place P.2 Z c.blocks_of-blocks.ensures c.steps_of-at.ensures c.temporaries_of-t.ensures)))

pub overflow_add-blocks : goal.overflow_add-blocks
overflow_add-blocks c = let P = c.requires in omega (arith, (sizes P.2 (c.size_all-steps.ensures P.0 P.1 P.2.jobs) c.blocks_of-blocks.ensures c.steps_of-at.ensures c.temporaries_of-t.ensures).3)

pub overflow_add-at-2 : goal.overflow_add-at-2
overflow_add-at-2 c = let P = c.requires in omega (arith, (sizes P.2 (c.size_all-steps.ensures P.0 P.1 P.2.jobs) c.blocks_of-blocks.ensures c.steps_of-at.ensures c.temporaries_of-t.ensures).1)

pub overflow_sub-steps-2 : goal.overflow_sub-steps-2
overflow_sub-steps-2 c = let P = c.requires in omega (arith, (sizes P.2 (c.size_all-steps.ensures P.0 P.1 P.2.jobs) c.blocks_of-blocks.ensures c.steps_of-at.ensures c.temporaries_of-t.ensures).0)

pub overflow_add-t-2 : goal.overflow_add-t-2
overflow_add-t-2 c = let P = c.requires in omega (arith, (sizes P.2 (c.size_all-steps.ensures P.0 P.1 P.2.jobs) c.blocks_of-blocks.ensures c.steps_of-at.ensures c.temporaries_of-t.ensures).2)

pub store-requires : goal.store-requires
store-requires c = let P = c.requires in let Z = c.size_all-steps.ensures P.0 P.1 P.2.jobs in code-store P.2 Z c.blocks_of-blocks.ensures c.steps_of-at.ensures c.temporaries_of-t.ensures (sym c.has_room.ensures ∙ c.if-not-has_room.false) (c.place_all.ensures P.0 P.1 (code-place P.2 Z c.blocks_of-blocks.ensures c.steps_of-at.ensures c.temporaries_of-t.ensures))

pub returns : goal.returns
returns c = λ b js a. let Z = c.size_all-steps.ensures b js a.jobs in let o = sym c.has_room.ensures ∙ c.if-not-has_room.false in let p = c.place_all.ensures b js (code-place a Z c.blocks_of-blocks.ensures c.steps_of-at.ensures c.temporaries_of-t.ensures) in code-done a Z c.blocks_of-blocks.ensures c.steps_of-at.ensures c.temporaries_of-t.ensures o p (c.make_all.ensures b js a.jobs (plain-room a Z c.blocks_of-blocks.ensures c.steps_of-at.ensures c.temporaries_of-t.ensures o p)) c.store.ensures
