-- `evaluator_cells::given::section_start` meets its contract: section i begins at `at`.
-- Assumes nothing.
use Prim.Native.Nat.{◌≤◌, ◌-◌}
use mathlib.Core.Path.{◌≡◌}
use Rattle.evaluator_cells.specs.Given.{start_of}
use Rattle.evaluator_cells.proofs.given.section_start.Given as goal

abbrev pub invariant-loop-i : goal.invariant-loop-i
invariant-loop-i l = (l.i ≤ l.k) × (l.at ≡ start_of l.values l.i)

abbrev pub decreases-loop-i : goal.decreases-loop-i
decreases-loop-i l = l.k - l.i
