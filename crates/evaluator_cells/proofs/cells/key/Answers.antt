-- `evaluator_cells::cells::key` meets its contract.
-- Assumes nothing.
use mathlib.Core.Path.{refl}
use Rattle.evaluator_cells.specs.Cells.{key_no}
use Rattle.evaluator_cells.proofs.cells.key.Goals as goal

pub returns : goal.returns
unfolding key_no
returns c = refl
