-- `plan_tables::numbers::record_numbers` meets its contract: the numbers of the records before k are listed. Assumes nothing.
use Prim.Native.Nat.{◌≤◌, ◌-◌}
use lib.ListN.{take}
use Rattle.plan_tables.specs.Tables.{numbers_in}
use Rattle.plan_tables.specs.Listed.{Listed}
use Rattle.plan_tables.proofs.numbers.record_numbers.Given as goal

abbrev pub invariant-loop-k : goal.invariant-loop-k
invariant-loop-k l = (l.k ≤ l.count) × Listed l.initial.numbers l.numbers l.n (numbers_in l.from l.to 0 (take l.k l.sections))

abbrev pub decreases-loop-k : goal.decreases-loop-k
decreases-loop-k l = l.count - l.k
