-- `evaluator_cells::numbers::number_at` meets its contract.
-- Assumes nothing.
use Rattle.evaluator_cells.specs.Laws.Literals.{past-none}
use Rattle.evaluator_cells.proofs.numbers.number_at.Goals as goal

pub returns : goal.returns
returns c = past-none c.requires _ c.if-n-lt-NODE_LIMIT.false
