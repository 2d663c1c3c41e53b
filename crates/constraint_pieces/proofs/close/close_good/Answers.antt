-- `constraint_pieces::close::close_good` meets its contract: each need is one lemma of proofs/Closes.antt.
-- Assumes nothing.
use mathlib.Core.Path.{sym, ◌∙◌}
use Rattle.constraint_pieces.proofs.Closes.{no-block, no_room, put-asks, grow-asks, store_asks, all_closed}
use Rattle.constraint_pieces.proofs.close.close_good.Goals as goal

pub blocks_of-blocks-requires : goal.blocks_of-blocks-requires
blocks_of-blocks-requires c = c.requires.1.good.head.size

pub steps_of-at-requires : goal.steps_of-at-requires
steps_of-at-requires c = c.requires.1.good.head.size

pub temporaries_of-t-requires : goal.temporaries_of-t-requires
temporaries_of-t-requires c = c.requires.1.good.head.size

pub returns-then-blocks-eq0 : goal.returns-then-blocks-eq0
returns-then-blocks-eq0 c = rw c.into.ensures (no-block c.requires.1 c.blocks_of-blocks.ensures c.steps_of-at.ensures c.temporaries_of-t.ensures c.if-blocks-eq0.true)

pub returns-then-not-has_room : goal.returns-then-not-has_room
returns-then-not-has_room c = rw c.into-then-not-has_room.ensures (no_room c.requires.1 c.blocks_of-blocks.ensures c.steps_of-at.ensures c.temporaries_of-t.ensures c.if-blocks-eq0.false (sym c.has_room.ensures ∙ c.if-not-has_room.true))

pub put_closing-requires : goal.put_closing-requires
put_closing-requires c = put-asks c.requires.1 c.blocks_of-blocks.ensures c.steps_of-at.ensures c.temporaries_of-t.ensures c.if-blocks-eq0.false c.load_blocks.ensures (sym c.has_room.ensures ∙ c.if-not-has_room.false)

pub grow-requires : goal.grow-requires
grow-requires c = grow-asks c.requires.1 c.blocks_of-blocks.ensures c.steps_of-at.ensures c.temporaries_of-t.ensures c.if-blocks-eq0.false c.load_blocks.ensures (sym c.has_room.ensures ∙ c.if-not-has_room.false)

pub store-requires : goal.store-requires
store-requires c = store_asks c.requires.1 c.blocks_of-blocks.ensures c.steps_of-at.ensures c.temporaries_of-t.ensures c.if-blocks-eq0.false c.load_blocks.ensures (sym c.has_room.ensures ∙ c.if-not-has_room.false) c.load_marks.ensures c.grow.ensures

pub returns : goal.returns
returns c = all_closed c.requires.1 c.blocks_of-blocks.ensures c.steps_of-at.ensures c.temporaries_of-t.ensures c.if-blocks-eq0.false c.load_blocks.ensures (sym c.has_room.ensures ∙ c.if-not-has_room.false) c.load_marks.ensures c.grow.ensures c.put_closing.ensures c.store.ensures
