-- `frames::tables::put_node` meets its contract.
-- Assumes nothing.
use mathlib.Core.Path.{refl}
use Rattle.frames.specs.Tables.{put_node}
use Rattle.frames.proofs.tables.put_node.Goals as goal

pub returns : goal.returns
unfolding put_node
returns c = (simp (c.head_word.ensures, c.child_word.ensures), refl)
