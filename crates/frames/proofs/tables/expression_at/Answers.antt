-- `frames::tables::expression_at` meets its contract.
-- Assumes nothing.
use mathlib.Core.Path.{refl}
use Rattle.frames.specs.Tables.{expression_in}
use Rattle.frames.proofs.tables.expression_at.Goals as goal

pub returns : goal.returns
unfolding expression_in
returns c = refl
