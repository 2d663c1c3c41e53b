-- `frames::tables::request_word` meets its contract.
-- Assumes nothing.
use mathlib.Core.Path.{refl}
use Rattle.frames.specs.Tables.{request_word}
use Rattle.frames.proofs.tables.request_word.Goals as goal

pub returns : goal.returns
unfolding request_word
returns c = refl
