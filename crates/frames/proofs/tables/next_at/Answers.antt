-- `frames::tables::next_at` meets its contract.
-- Assumes nothing.
use mathlib.Core.Path.{refl}
use Rattle.frames.specs.Tables.{next_in}
use Rattle.frames.proofs.tables.next_at.Goals as goal

pub returns : goal.returns
unfolding next_in
returns c = refl
