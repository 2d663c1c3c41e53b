-- `evaluator_cells::valued::put_keyed` meets its contract.
-- Assumes nothing.
use Rattle.evaluator_cells.specs.Laws.Valued.{keyed_put}
use Rattle.evaluator_cells.proofs.valued.put_keyed.Goals as goal

pub returns : goal.returns
returns c = keyed_put _ _ c.args.key c.args.value c.put_two.ensures c.put_u16.ensures c.put_u64.ensures
