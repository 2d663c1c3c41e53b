-- `constraint_lists::write::copy_lists` meets its contract.
-- Assumes nothing.
use Rattle.constraint_lists.specs.Measuring.{segment_in}
use Rattle.constraint_lists.proofs.Rooms.{lists-copied}
use Rattle.constraint_lists.proofs.write.copy_lists.Goals as goal

pub copy_list-requires : goal.copy_list-requires
copy_list-requires c = c.requires.first

pub copy_list-requires-2 : goal.copy_list-requires-2
copy_list-requires-2 c = c.requires.i

pub copy_list-requires-3 : goal.copy_list-requires-3
copy_list-requires-3 c = c.requires.last

pub returns : goal.returns
returns c = lists-copied _ _ _ (segment_in c.args.expressions.now c.args.words.now c.args.list.now c.args.n c.args.m) c.copy_list.ensures c.copy_list-2.ensures c.copy_list-3.ensures
