-- `frames::tables::request_at` meets its contract.
-- Assumes nothing.
use mathlib.Core.Path.{refl}
use Rattle.frames.specs.Tables.{request_in}
use Rattle.frames.proofs.tables.request_at.Goals as goal

pub returns : goal.returns
unfolding request_in
returns c = refl
