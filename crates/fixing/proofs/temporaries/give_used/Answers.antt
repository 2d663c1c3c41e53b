-- `fixing::temporaries::give_used` meets its contract.
-- Assumes nothing.
use Rattle.kinds.specs.References.{ref_at}
use Rattle.fixing.specs.Laws.Giving.{used-given, unused-given}
use Rattle.fixing.proofs.temporaries.give_used.Goals as goal

pub returns-then-used : goal.returns-then-used
returns-then-used c = used-given _ _ (ref_at c.args.list.now c.args.at) _ _ c.if-used.true c.give_reference.ensures

pub returns : goal.returns
returns c = unused-given _ _ (ref_at c.args.list.now c.args.at) _ c.if-used.false
