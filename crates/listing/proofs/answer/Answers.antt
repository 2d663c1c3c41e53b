-- `listing::answer` is safe: the steps that it shows stand in the list.
-- Assumes nothing.
use Rattle.listing.proofs.Asked.{asked}
use Rattle.listing.proofs.answer.Goals as goal

pub print_list-requires : goal.print_list-requires
print_list-requires g c = asked (c.conclude-r.ensures c.requires.0 c.requires.1) c.shown_outcome-s.ensures c.conclude-r.auto.list
