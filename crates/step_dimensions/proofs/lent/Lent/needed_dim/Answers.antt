-- `step_dimensions::lent::Lent::needed_dim` meets its contract.
-- Assumes nothing.
use mathlib.Core.Path.{◌∙◌}
use Rattle.step_dimensions.specs.Laws.Steps.{slot-needed, slot_missing, slot_kept}
use Rattle.step_dimensions.proofs.lent.Lent.needed_dim.Goals as goal

pub returns-then-needed-place : goal.returns-then-needed-place
returns-then-needed-place c = slot_kept _ _ _ _ _ c.args.r c.if-needed-place.true

pub returns-then-count-place : goal.returns-then-count-place
returns-then-count-place c = slot_missing _ _ _ _ _ c.args.r c.if-needed-place.false c.if-count-place.true

pub returns : goal.returns
returns c = c.source_dim.ensures ∙ slot-needed _ _ _ _ _ c.args.r c.if-needed-place.false c.if-count-place.false
