-- `evaluator_cells::arithmetic::minus` meets its contract.
-- Assumes nothing.
use mathlib.Core.Path.{refl}
use Rattle.evaluator_cells.specs.Laws.Arithmetic.{minus_is}
use Rattle.evaluator_cells.proofs.arithmetic.minus.Goals as goal

pub returns : goal.returns
returns c = minus_is _ _ _ _ c.requires.second refl
