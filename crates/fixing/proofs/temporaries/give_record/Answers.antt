-- `fixing::temporaries::give_record` meets its contract.
-- Assumes nothing.
use Rattle.kinds.specs.Steps.{step_at}
use Rattle.fixing.specs.Laws.Giving.{record-given}
use Rattle.fixing.proofs.temporaries.give_record.Goals as goal

pub returns : goal.returns
unfolding step_at
returns c = record-given _ (step_at c.args.list.now c.args.at) _ _ _ _ _ c.give_used-first.ensures c.give_used-second.ensures c.give_used-third.ensures c.give_reference.ensures
