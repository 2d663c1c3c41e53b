-- `frames::tables::count_at` meets its contract.
-- Assumes nothing.
use mathlib.Core.Path.{refl}
use Rattle.frames.specs.Tables.{count_in}
use Rattle.frames.proofs.tables.count_at.Goals as goal

pub returns : goal.returns
unfolding count_in
returns c = refl
