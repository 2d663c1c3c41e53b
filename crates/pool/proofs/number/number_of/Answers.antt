-- `pool::number::number_of` meets its contract. Assumes nothing.
use Rattle.pool.proofs.Numbers.{of-slice}
use Rattle.pool.proofs.number.number_of.Goals as goal

pub verdict_of-requires : goal.verdict_of-requires
verdict_of-requires c = (_, _, _, of-slice c.read-counts.ensures)

pub returns : goal.returns
returns c = rw c.answer_number.ensures (c.verdict_of.ensures _ _ _ (of-slice c.read-counts.ensures))
