-- `plans::check::ascends` meets its contract: the intermediates up to i ascend. Assumes nothing.
use Prim.Native.Nat.{◌≤◌, ◌-◌}
use mathlib.Core.Path.{◌≡◌}
use mathlib.Core.Bool.{true}
use Rattle.plans.specs.Plan.{every, im_count, ascends}
use Rattle.plans.proofs.check.ascends.Given as goal

abbrev pub invariant-loop-i : goal.invariant-loop-i
invariant-loop-i l = (l.i ≤ im_count l.plan - 1) × (every (ascends l.plan) l.i ≡ true)

abbrev pub decreases-loop-i : goal.decreases-loop-i
decreases-loop-i l = l.n - l.i
