-- `readable::tree::second_place` meets its contract: the products are a range.
-- Assumes nothing.
use native.Mathlib.Omega.{arith}
use Rattle.kinds.specs.Range.{within, value-over, within-above}
use Rattle.readable.specs.Binding.{second_place}
use Rattle.readable.proofs.tree.second_place.Goals as goal

pub returns-in-3-to-4 : goal.returns-in-3-to-4
unfolding second_place within
returns-in-3-to-4 c = value-over second_place 2 3 4 tt c.args.kind (omega arith)

pub returns-in_default : goal.returns-in_default
unfolding second_place within
returns-in_default c = value-over second_place 1 0 2 tt c.args.kind (omega arith)

pub returns-in_default-2 : goal.returns-in_default-2
unfolding second_place
returns-in_default-2 c = simp (within-above 3 4 c.args.kind (omega arith))
