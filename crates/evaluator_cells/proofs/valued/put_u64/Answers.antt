-- `evaluator_cells::valued::put_u64` meets its contract.
-- Assumes nothing.
use Rattle.evaluator_cells.specs.Laws.Valued.{u64-put}
use Rattle.evaluator_cells.proofs.valued.put_u64.Goals as goal

pub returns : goal.returns
returns c = u64-put _ _ c.args.x c.put_u32.ensures c.put_u32-2.ensures
