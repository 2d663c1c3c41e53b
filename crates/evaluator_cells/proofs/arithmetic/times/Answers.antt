-- `evaluator_cells::arithmetic::times` meets its contract.
-- Assumes nothing.
use Rattle.evaluator_cells.specs.Laws.Arithmetic.{product-fits}
use Rattle.evaluator_cells.proofs.arithmetic.times.Goals as goal

pub overflow_mul-result : goal.overflow_mul-result
overflow_mul-result c = record { fits = product-fits _ _ _ c.requires }
