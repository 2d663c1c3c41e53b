-- `evaluator_cells::cells::Cells::find` meets its contract: the walk down the chain of the key's id.
-- Assumes nothing.
use Prim.Native.Nat.{ℕ}
use Rattle.evaluator_cells.specs.Cells.{Chained}
use Rattle.evaluator_cells.specs.Laws.Chains.{Walked}
use Rattle.evaluator_cells.proofs.cells.Cells.find.Given as goal

abbrev pub invariant-loop-at : goal.invariant-loop-at
invariant-loop-at l = (n : ℕ) → Chained l.self.heads l.self.nexts l.self.keys n → Walked l.self.keys n l.key l.at

abbrev pub decreases-loop-at : goal.decreases-loop-at
decreases-loop-at l = l.at
