-- `dimensions::pass::decide_step` meets its contract.
-- Assumes nothing.
use Prim.Native.Nat.{◌*◌}
use Rattle.kinds.specs.Steps.{step_size, step_at}
use Rattle.dimensions.specs.Laws.Passes.{step-known}
use Rattle.dimensions.proofs.pass.decide_step.Goals as goal

pub returns : goal.returns
unfolding step_at
returns c = step-known _ _ (step_at c.args.list.now (step_size * c.args.k)) _ _ c.in-Some.ensures c.note_dim.ensures
