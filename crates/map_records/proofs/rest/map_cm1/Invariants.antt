-- `map_records::rest::map_cm1` meets its contract: the first i columns are mapped. Assumes nothing.
use Prim.Native.Nat.{◌*◌, ◌≤◌, ◌-◌}
use Rattle.pool.specs.Pool.{Pool}
use Rattle.plans.specs.Plan.{cm1}
use Rattle.map_records.specs.Mapping.{fresh, cm1s}
use Rattle.map_records.specs.Tables.{Holds}
use Rattle.map_records.proofs.rest.map_cm1.Given as goal

abbrev pub invariant-loop-i : goal.invariant-loop-i
invariant-loop-i l = (l.i ≤ cm1 l.plan) × ((p : Pool) → Holds l.initial.sections l.initial.dims l.initial.cmdims 0 (fresh l.plan p) → Holds l.sections l.dims l.cmdims (2 * l.i) (cm1s l.plan p l.i))

abbrev pub decreases-loop-i : goal.decreases-loop-i
decreases-loop-i l = l.count - l.i
