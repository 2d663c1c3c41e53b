-- `plan_map::put::put_records` meets its contract: the records before k stand there. Assumes nothing.
use Prim.Native.Nat.{◌≤◌, ◌-◌}
use Rattle.plan_map.specs.Numbers.{rows_by, record_row}
use Rattle.plan_map.specs.Puts.{Puts}
use Rattle.plan_map.proofs.put.put_records.Given as goal

abbrev pub invariant-loop-k : goal.invariant-loop-k
invariant-loop-k l = (l.k ≤ l.n) × Puts l.initial.out l.from (rows_by (record_row l.sections l.dims l.positions) l.k) l.out l.at

abbrev pub decreases-loop-k : goal.decreases-loop-k
decreases-loop-k l = l.n - l.k
