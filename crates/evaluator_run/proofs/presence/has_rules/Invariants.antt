-- `evaluator_run::presence::has_rules` meets its contract: the records before k have rules, and left the marks that stand.
-- Assumes nothing.
use Prim.Native.Nat.{◌≤◌, ◌-◌}
use mathlib.Core.Path.{◌≡◌}
use mathlib.Core.Option.{some}
use lib.ListN.{replicate}
use Rattle.kinds.specs.Steps.{steps_of}
use Rattle.evaluator_cells.specs.Given.{lent}
use Rattle.lists.specs.Records.{record_count}
use Rattle.evaluator_run.specs.Presence.{slot_count, marks_to}
use Rattle.evaluator_run.proofs.presence.has_rules.Given as goal

abbrev pub invariant-loop-k : goal.invariant-loop-k
invariant-loop-k l = (l.k ≤ record_count l.list) × (marks_to l.m (lent l.values) (replicate slot_count 0) (steps_of l.list l.k) ≡ some l.seen)

abbrev pub decreases-loop-k : goal.decreases-loop-k
decreases-loop-k l = record_count l.list - l.k
