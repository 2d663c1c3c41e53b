-- `evaluator_cells::valued::put_u32` meets its contract.
-- Assumes nothing.
use Rattle.evaluator_cells.specs.Laws.Valued.{u32_put}
use Rattle.evaluator_cells.proofs.valued.put_u32.Goals as goal

pub returns : goal.returns
returns c = u32_put _ _ c.args.x c.put_u16.ensures c.put_u16-2.ensures
