-- `builds::flags::release_one` meets its contract.
-- Assumes nothing.
use mathlib.Core.Path.{sym, ◌∙◌}
use Rattle.builds.proofs.Tests.{released-one, held_one}
use Rattle.builds.proofs.flags.release_one.Goals as goal

pub returns-then-released : goal.returns-then-released
returns-then-released c = released-one _ _ _ c.expression_at.ensures (sym c.released.ensures ∙ c.if-released.true)

pub returns-else-released : goal.returns-else-released
returns-else-released c = held_one _ _ _ c.expression_at.ensures (sym c.released.ensures ∙ c.if-released.false)
