-- `map_records::rest::map_quotients` meets its contract: the first i pieces are mapped. Assumes nothing.
use Prim.Native.Nat.{◌+◌, ◌*◌, ◌≤◌, ◌-◌}
use Rattle.pool.specs.Pool.{Pool}
use Rattle.plans.specs.Plan.{q_deg}
use Rattle.map_records.specs.Mapping.{quotients}
use Rattle.map_records.specs.Tables.{Holds, QuotientAsks}
use Rattle.map_records.proofs.rest.map_quotients.Given as goal

abbrev pub invariant-loop-i : goal.invariant-loop-i
invariant-loop-i l = (l.i ≤ q_deg l.plan) × ((p : Pool) → QuotientAsks l.plan l.initial.sections l.initial.dims l.initial.cmdims l.before l.qdim p → Holds l.sections l.dims l.cmdims (l.before + 2 * l.i) (quotients l.plan p l.i))

abbrev pub decreases-loop-i : goal.decreases-loop-i
decreases-loop-i l = l.count - l.i
