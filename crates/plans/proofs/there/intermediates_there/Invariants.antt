-- `plans::there::intermediates_there` meets its contract: the expressions of the intermediates before i are there. Assumes nothing.
use Prim.Native.Nat.{◌≤◌, ◌-◌}
use mathlib.Core.Path.{◌≡◌}
use mathlib.Core.Bool.{true}
use Rattle.plans.specs.Plan.{every, im_count}
use Rattle.plans.specs.Agreement.{im_there}
use Rattle.plans.proofs.there.intermediates_there.Given as goal

abbrev pub invariant-loop-i : goal.invariant-loop-i
invariant-loop-i l = (l.i ≤ im_count l.plan) × (every (im_there l.plan l.m) l.i ≡ true)

abbrev pub decreases-loop-i : goal.decreases-loop-i
decreases-loop-i l = l.n - l.i
