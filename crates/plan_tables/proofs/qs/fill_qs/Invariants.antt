-- `plan_tables::qs::fill_qs` meets its contract: the first i numbers are listed. Assumes nothing.
use Prim.Native.Nat.{◌+◌, ◌≤◌, ◌-◌}
use Rattle.frames.specs.Tables.{first}
use Rattle.plans.specs.Plan.{number_at, qs_at, qs_count}
use Rattle.plan_tables.specs.Listed.{Listed}
use Rattle.plan_tables.proofs.qs.fill_qs.Given as goal

abbrev pub invariant-loop-i : goal.invariant-loop-i
invariant-loop-i l = (l.i ≤ qs_count l.plan) × Listed l.initial.numbers l.numbers l.i (first (λ j. number_at l.plan (qs_at l.plan + j)) l.i)

abbrev pub decreases-loop-i : goal.decreases-loop-i
decreases-loop-i l = l.count - l.i
