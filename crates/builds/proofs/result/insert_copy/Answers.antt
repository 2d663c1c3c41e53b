-- `builds::result::insert_copy` meets its contract: steps moved up, and the copy written in front of them.
-- Assumes nothing.
use Rattle.builds.proofs.Results.{copy-inserted}
use Rattle.builds.proofs.result.insert_copy.Goals as goal

pub returns : goal.returns
returns c = copy-inserted _ _ _ _ c.nth_step-last.ensures c.copy_step.ensures c.move_up.ensures c.put_nth_step.ensures
