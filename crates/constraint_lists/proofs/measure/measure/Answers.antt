-- `constraint_lists::measure::measure` meets its contract: each need is one lemma of proofs/Coded.antt.
-- Assumes nothing.
use mathlib.Core.Path.{sym, ◌∙◌}
use native.Mathlib.Omega.{arith}
use Rattle.codegen.specs.Building.{lists}
use Rattle.codegen.proofs.Coded.{code-place}
use Rattle.constraint_lists.proofs.Coded.{sums, one_more, code-full, code-close, code-rooms, code_measured}
use Rattle.constraint_lists.proofs.measure.measure.Goals as goal

pub blocks_of-blocks-requires : goal.blocks_of-blocks-requires
blocks_of-blocks-requires c = c.requires.3.commit.good.head.size

pub steps_of-at-requires : goal.steps_of-at-requires
steps_of-at-requires c = c.requires.3.commit.good.head.size

pub temporaries_of-t-requires : goal.temporaries_of-t-requires
temporaries_of-t-requires c = c.requires.3.commit.good.head.size

pub size_all-own-requires : goal.size_all-own-requires
size_all-own-requires c = let P = c.requires in (P.0, P.1, P.3.commit.jobs)

pub overflow_add-blocks : goal.overflow_add-blocks
overflow_add-blocks c = let P = c.requires in let Z = c.size_all-own.ensures P.0 P.1 P.3.commit.jobs in let S = sums P.3 Z c.args.closes c.blocks_of-blocks.ensures c.steps_of-at.ensures c.temporaries_of-t.ensures in omega (arith, S.0, S.1, S.2, S.3)

pub more_steps-more-requires : goal.more_steps-more-requires
more_steps-more-requires c = let P = c.requires in let Z = c.size_all-own.ensures P.0 P.1 P.3.commit.jobs in let S = sums P.3 Z c.args.closes c.blocks_of-blocks.ensures c.steps_of-at.ensures c.temporaries_of-t.ensures in omega (arith, S.0, S.1, S.2, S.3)

pub overflow_add-at : goal.overflow_add-at
overflow_add-at c = let P = c.requires in let Z = c.size_all-own.ensures P.0 P.1 P.3.commit.jobs in let S = sums P.3 Z c.args.closes c.blocks_of-blocks.ensures c.steps_of-at.ensures c.temporaries_of-t.ensures in omega (arith, S.0, S.1, S.2, S.3)

pub overflow_add-at-2 : goal.overflow_add-at-2
overflow_add-at-2 c = let P = c.requires in let Z = c.size_all-own.ensures P.0 P.1 P.3.commit.jobs in let S = sums P.3 Z c.args.closes c.blocks_of-blocks.ensures c.steps_of-at.ensures c.temporaries_of-t.ensures in omega (arith, S.1, one_more P.3 Z c.args.closes c.blocks_of-blocks.ensures c.steps_of-at.ensures c.temporaries_of-t.ensures c.more_steps-more.ensures)

pub overflow_sub-own : goal.overflow_sub-own
overflow_sub-own c = let P = c.requires in let Z = c.size_all-own.ensures P.0 P.1 P.3.commit.jobs in let S = sums P.3 Z c.args.closes c.blocks_of-blocks.ensures c.steps_of-at.ensures c.temporaries_of-t.ensures in omega (arith, S.0, S.1, S.2, S.3)

pub overflow_add-t : goal.overflow_add-t
overflow_add-t c = let P = c.requires in let Z = c.size_all-own.ensures P.0 P.1 P.3.commit.jobs in let S = sums P.3 Z c.args.closes c.blocks_of-blocks.ensures c.steps_of-at.ensures c.temporaries_of-t.ensures in omega (arith, S.0, S.1, S.2, S.3)

pub has_room-requires : goal.has_room-requires
has_room-requires c = let P = c.requires in let Z = c.size_all-own.ensures P.0 P.1 P.3.commit.jobs in let S = sums P.3 Z c.args.closes c.blocks_of-blocks.ensures c.steps_of-at.ensures c.temporaries_of-t.ensures in omega (arith, S.1, one_more P.3 Z c.args.closes c.blocks_of-blocks.ensures c.steps_of-at.ensures c.temporaries_of-t.ensures c.more_steps-more.ensures)

pub returns-then-not-has_room : goal.returns-then-not-has_room
returns-then-not-has_room c = λ b js s a. let Z = c.size_all-own.ensures b js a.commit.jobs in code-full a Z c.args.closes c.blocks_of-blocks.ensures c.steps_of-at.ensures c.temporaries_of-t.ensures c.more_steps-more.ensures (lists c.args.first.now c.args.i.now c.args.last.now) _ (sym c.has_room.ensures ∙ c.if-not-has_room.true)

pub place_all-requires : goal.place_all-requires
place_all-requires c = let P = c.requires in let Z = c.size_all-own.ensures P.0 P.1 P.3.commit.jobs in (P.0, P.1, code-place P.3.commit Z c.blocks_of-blocks.ensures c.steps_of-at.ensures c.temporaries_of-t.ensures)

pub overflow_add-blocks-2 : goal.overflow_add-blocks-2
overflow_add-blocks-2 c = let P = c.requires in let Z = c.size_all-own.ensures P.0 P.1 P.3.commit.jobs in let S = sums P.3 Z c.args.closes c.blocks_of-blocks.ensures c.steps_of-at.ensures c.temporaries_of-t.ensures in omega (arith, S.0, S.1, S.2, S.3)

pub close_words-requires : goal.close_words-requires
close_words-requires c = let P = c.requires in let Z = c.size_all-own.ensures P.0 P.1 P.3.commit.jobs in code-close P.3 Z c.args.closes c.blocks_of-blocks.ensures c.steps_of-at.ensures c.temporaries_of-t.ensures c.more_steps-more.ensures (sym c.has_room.ensures ∙ c.if-not-has_room.false) (c.place_all.ensures P.0 P.1 (code-place P.3.commit Z c.blocks_of-blocks.ensures c.steps_of-at.ensures c.temporaries_of-t.ensures))

pub overflow_add-blocks-3 : goal.overflow_add-blocks-3
overflow_add-blocks-3 c = let P = c.requires in let Z = c.size_all-own.ensures P.0 P.1 P.3.commit.jobs in let S = sums P.3 Z c.args.closes c.blocks_of-blocks.ensures c.steps_of-at.ensures c.temporaries_of-t.ensures in omega (arith, S.0, S.1, S.2, S.3)

pub overflow_add-at-3 : goal.overflow_add-at-3
overflow_add-at-3 c = let P = c.requires in let Z = c.size_all-own.ensures P.0 P.1 P.3.commit.jobs in let S = sums P.3 Z c.args.closes c.blocks_of-blocks.ensures c.steps_of-at.ensures c.temporaries_of-t.ensures in omega (arith, S.0, S.1, S.2, S.3)

pub overflow_add-at-4 : goal.overflow_add-at-4
overflow_add-at-4 c = let P = c.requires in let Z = c.size_all-own.ensures P.0 P.1 P.3.commit.jobs in let S = sums P.3 Z c.args.closes c.blocks_of-blocks.ensures c.steps_of-at.ensures c.temporaries_of-t.ensures in omega (arith, S.1, one_more P.3 Z c.args.closes c.blocks_of-blocks.ensures c.steps_of-at.ensures c.temporaries_of-t.ensures c.more_steps-more.ensures)

pub rooms-requires : goal.rooms-requires
rooms-requires c = let P = c.requires in let Z = c.size_all-own.ensures P.0 P.1 P.3.commit.jobs in code-rooms P.3 Z c.args.closes c.blocks_of-blocks.ensures c.steps_of-at.ensures c.temporaries_of-t.ensures c.more_steps-more.ensures (sym c.has_room.ensures ∙ c.if-not-has_room.false) (c.place_all.ensures P.0 P.1 (code-place P.3.commit Z c.blocks_of-blocks.ensures c.steps_of-at.ensures c.temporaries_of-t.ensures)) c.close_words.ensures

pub returns : goal.returns
returns c = λ b js s a. let Z = c.size_all-own.ensures b js a.commit.jobs in code_measured a Z c.args.closes c.blocks_of-blocks.ensures c.steps_of-at.ensures c.temporaries_of-t.ensures c.more_steps-more.ensures (sym c.has_room.ensures ∙ c.if-not-has_room.false) (c.place_all.ensures b js (code-place a.commit Z c.blocks_of-blocks.ensures c.steps_of-at.ensures c.temporaries_of-t.ensures)) c.close_words.ensures (lists c.args.first.now c.args.i.now c.args.last.now) c.rooms.result c.rooms.ensures
