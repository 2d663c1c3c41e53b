-- `step_dimensions::step::largest` meets its contract.
-- Assumes nothing.
use mathlib.Core.Path.{◌∙◌}
use Rattle.step_dimensions.specs.Laws.Steps.{largest-one, largest-two, largest-three}
use Rattle.step_dimensions.proofs.step.largest.Goals as goal

pub returns-in-1 : goal.returns-in-1
returns-in-1 c = largest-one _ _ _ _ c.in-1.is

pub returns-in-2 : goal.returns-in-2
returns-in-2 c = c.max.ensures ∙ largest-two _ _ _ _ c.in-2.is

pub returns-in_default : goal.returns-in_default
returns-in_default c = c.max-in_default-2.ensures ∙ largest-three _ _ _ _ c.in_default.in_default-own.rest.0.1 c.in_default.in_default-own.rest.1 _ c.max-in_default.ensures
