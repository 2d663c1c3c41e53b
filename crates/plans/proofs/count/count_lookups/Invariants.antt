-- `plans::count::count_lookups` meets its contract: the columns of the pu before i are counted. Assumes nothing.
use Prim.Native.Nat.{◌≤◌, ◌-◌, ◌*◌}
use Rattle.plans.specs.Plan.{number_limit, pu_count}
use Rattle.plans.specs.Columns.{lookups}
use Rattle.plans.specs.Counting.{Counted}
use Rattle.plans.proofs.count.count_lookups.Given as goal

abbrev pub invariant-loop-i : goal.invariant-loop-i
invariant-loop-i l = (l.i ≤ pu_count l.plan) × Counted number_limit l.plan (lookups l.plan l.i) l.count (2 * l.i) l.seen

abbrev pub decreases-loop-i : goal.decreases-loop-i
decreases-loop-i l = l.n - l.i
