-- `fixing::temporaries::give_lists` meets its contract.
-- Assumes nothing.
use Rattle.fixing.specs.Laws.Giving.{lists-given}
use Rattle.fixing.proofs.temporaries.give_lists.Goals as goal

pub returns : goal.returns
returns c = lists-given _ _ _ _ _ _ _ _ c.give_list-after_first.ensures c.give_list-after_i.ensures c.give_list.ensures
