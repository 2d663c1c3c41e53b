-- `frames::tables::head_word` meets its contract.
-- Assumes nothing.
use mathlib.Core.Path.{refl}
use Rattle.frames.specs.Tables.{head_word}
use Rattle.frames.proofs.tables.head_word.Goals as goal

pub returns : goal.returns
unfolding head_word
returns c = refl
