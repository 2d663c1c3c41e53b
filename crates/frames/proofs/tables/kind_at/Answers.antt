-- `frames::tables::kind_at` meets its contract.
-- Assumes nothing.
use mathlib.Core.Path.{refl}
use Rattle.frames.specs.Tables.{kind_in}
use Rattle.frames.proofs.tables.kind_at.Goals as goal

pub returns : goal.returns
unfolding kind_in
returns c = refl
