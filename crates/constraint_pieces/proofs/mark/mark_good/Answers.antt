-- `constraint_pieces::mark::mark_good` meets its contract.
-- Assumes nothing.
use Rattle.constraint_pieces.proofs.Turns.{store_asks, context-marked}
use Rattle.constraint_pieces.proofs.mark.mark_good.Goals as goal

pub mark_members-requires : goal.mark_members-requires
mark_members-requires c = c.requires.there

pub store_marks-requires : goal.store_marks-requires
store_marks-requires c = store_asks c.requires c.load_marks.ensures c.mark_members.ensures

pub returns : goal.returns
returns c = context-marked c.requires c.load_marks.ensures c.mark_members.ensures c.store_marks.ensures
