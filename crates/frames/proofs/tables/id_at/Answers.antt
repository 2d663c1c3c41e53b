-- `frames::tables::id_at` meets its contract.
-- Assumes nothing.
use mathlib.Core.Path.{refl}
use Rattle.frames.specs.Tables.{id_in}
use Rattle.frames.proofs.tables.id_at.Goals as goal

pub returns : goal.returns
unfolding id_in
returns c = refl
