-- `frames::tables::sign_at` meets its contract.
-- Assumes nothing.
use mathlib.Core.Path.{refl}
use Rattle.frames.specs.Tables.{sign_in}
use Rattle.frames.proofs.tables.sign_at.Goals as goal

pub returns : goal.returns
unfolding sign_in
returns c = refl
