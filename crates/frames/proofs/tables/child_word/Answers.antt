-- `frames::tables::child_word` meets its contract.
-- Assumes nothing.
use mathlib.Core.Path.{refl}
use Rattle.frames.specs.Tables.{child_word}
use Rattle.frames.proofs.tables.child_word.Goals as goal

pub returns : goal.returns
unfolding child_word
returns c = refl
