-- `plan_tables::columns::lookup_columns` meets its contract: the expressions of the pu before i are gathered. Assumes nothing.
use Prim.Native.Nat.{◌*◌, ◌≤◌, ◌-◌}
use Rattle.plans.specs.Plan.{pu_count}
use Rattle.plans.specs.Columns.{lookups}
use Rattle.plan_tables.specs.Gathered.{Gathered}
use Rattle.plan_tables.proofs.columns.lookup_columns.Given as goal

abbrev pub invariant-loop-i : goal.invariant-loop-i
invariant-loop-i l = (l.i ≤ pu_count l.plan) × Gathered l.plan l.initial.columns (2 * l.i) l.seen l.columns l.n (lookups l.plan l.i)

abbrev pub decreases-loop-i : goal.decreases-loop-i
decreases-loop-i l = l.count - l.i
