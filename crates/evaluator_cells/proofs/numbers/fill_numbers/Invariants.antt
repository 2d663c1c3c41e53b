-- `evaluator_cells::numbers::fill_numbers` meets its contract: the numbers of the first n nodes stand in the table.
-- Assumes nothing.
use Prim.Native.Nat.{◌≤◌, ◌-◌}
use Rattle.evaluator_cells.specs.Laws.Literals.{Filled}
use Rattle.evaluator_cells.proofs.numbers.fill_numbers.Given as goal

abbrev pub invariant-loop-n : goal.invariant-loop-n
invariant-loop-n l = (l.n ≤ l.count) × Filled l.nodes l.literals l.m l.numbers l.n

abbrev pub decreases-loop-n : goal.decreases-loop-n
decreases-loop-n l = l.count - l.n
