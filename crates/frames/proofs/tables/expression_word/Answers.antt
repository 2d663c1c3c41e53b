-- `frames::tables::expression_word` meets its contract.
-- Assumes nothing.
use mathlib.Core.Path.{refl}
use Rattle.frames.specs.Tables.{expression_word}
use Rattle.frames.proofs.tables.expression_word.Goals as goal

pub returns : goal.returns
unfolding expression_word
returns c = refl
