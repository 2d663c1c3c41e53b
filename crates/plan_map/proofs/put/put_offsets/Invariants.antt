-- `plan_map::put::put_offsets` meets its contract: the offsets before the next stand there. Assumes nothing.
use Prim.Native.Nat.{◌≤◌, ◌-◌}
use Rattle.plan_tables.specs.Tables.{offset_count}
use Rattle.plan_map.specs.Numbers.{rows_by, offset_row}
use Rattle.plan_map.specs.Puts.{Puts}
use Rattle.plan_map.proofs.put.put_offsets.Given as goal

abbrev pub invariant-loop-offset : goal.invariant-loop-offset
invariant-loop-offset l = (l.offset-index ≤ offset_count) × Puts l.initial.out 0 (rows_by (offset_row l.offsets) l.offset-index) l.out l.at

abbrev pub decreases-loop-offset : goal.decreases-loop-offset
decreases-loop-offset l = offset_count - l.offset-index
