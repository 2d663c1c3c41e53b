-- `evaluator_cells::cells::id_of` meets its contract.
-- Assumes nothing.
use mathlib.Core.Path.{refl}
use Rattle.evaluator_cells.specs.Cells.{id_in}
use Rattle.evaluator_cells.proofs.cells.id_of.Goals as goal

pub returns : goal.returns
unfolding id_in
returns c = refl
