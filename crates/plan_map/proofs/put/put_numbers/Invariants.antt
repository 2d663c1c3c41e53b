-- `plan_map::put::put_numbers` meets its contract: the numbers before the next stand there. Assumes nothing.
use Prim.Native.Nat.{◌+◌, ◌*◌, ◌≤◌, ◌-◌}
use mathlib.Core.Path.{◌≡◌}
use lib.ListN.{take}
use Rattle.plan_map.specs.Puts.{Puts}
use Rattle.plan_map.proofs.put.put_numbers.Given as goal

abbrev pub invariant-loop-number : goal.invariant-loop-number
invariant-loop-number l = (l.number-index ≤ l.n) × (l.at ≡ l.from + 2 * l.number-index) × Puts l.initial.out l.from (take l.number-index (take l.n l.numbers)) l.out l.at

abbrev pub decreases-loop-number : goal.decreases-loop-number
decreases-loop-number l = l.n - l.number-index
