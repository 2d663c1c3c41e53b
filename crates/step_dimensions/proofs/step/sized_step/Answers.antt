-- `step_dimensions::step::sized_step` meets its contract.
-- Assumes nothing.
use Rattle.step_dimensions.proofs.step.sized_step.Goals as goal

pub returns : goal.returns
returns c = cc (c.largest.ensures, c.sized_reference.ensures, c.sized_reference-2.ensures, c.sized_reference-3.ensures, c.sized_reference-4.ensures)
