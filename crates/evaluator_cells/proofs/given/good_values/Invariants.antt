-- `evaluator_cells::given::good_values` meets its contract: section k begins at `at`, which is no further than the words go.
-- Assumes nothing.
use Prim.Native.Nat.{◌≤◌, ◌-◌}
use mathlib.Core.Path.{◌≡◌}
use lib.ListN.{length}
use Rattle.evaluator_cells.specs.Given.{section_count, start_of}
use Rattle.evaluator_cells.proofs.given.good_values.Given as goal

abbrev pub invariant-loop-k : goal.invariant-loop-k
invariant-loop-k l = (l.k ≤ section_count) × (l.at ≡ start_of l.values l.k) × (l.at ≤ length l.values)

abbrev pub decreases-loop-k : goal.decreases-loop-k
decreases-loop-k l = section_count - l.k
