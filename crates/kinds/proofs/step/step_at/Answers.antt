-- `kinds::step::step_at` meets its contract: each field is what is read at its place.
-- Assumes nothing.
use Rattle.kinds.specs.Steps.{step_at}
use Rattle.kinds.proofs.step.step_at.Goals as goal

pub returns : goal.returns
unfolding step_at
returns c = cc
