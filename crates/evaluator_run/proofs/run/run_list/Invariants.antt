-- `evaluator_run::run::run_list` meets its contract: the records before k were run, to the table that stands.
-- Assumes nothing.
use Prim.Native.Nat.{◌≤◌, ◌-◌}
use mathlib.Core.Path.{◌≡◌}
use Rattle.kinds.specs.Steps.{steps_of}
use Rattle.evaluator_cells.specs.Given.{lent}
use Rattle.lists.specs.Records.{record_count}
use Rattle.evaluator_step.specs.Machine.{Kept, next, run_to}
use Rattle.evaluator_run.proofs.run.run_list.Given as goal

abbrev pub invariant-loop-k : goal.invariant-loop-k
invariant-loop-k l = (l.k ≤ record_count l.list) × (Kept l.m l.cells) × (run_to l.numbers l.m (lent l.values) l.initial.cells (steps_of l.list l.k) ≡ next l.cells)

abbrev pub decreases-loop-k : goal.decreases-loop-k
decreases-loop-k l = record_count l.list - l.k
