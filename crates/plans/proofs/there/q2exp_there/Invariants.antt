-- `plans::there::q2exp_there` meets its contract: the expressions of the q numbers before i are there. Assumes nothing.
use Prim.Native.Nat.{◌≤◌, ◌-◌}
use mathlib.Core.Path.{◌≡◌}
use mathlib.Core.Bool.{true}
use Rattle.plans.specs.Plan.{every, q2exp_count}
use Rattle.plans.specs.Agreement.{q2exp_there}
use Rattle.plans.proofs.there.q2exp_there.Given as goal

abbrev pub invariant-loop-i : goal.invariant-loop-i
invariant-loop-i l = (l.i ≤ q2exp_count l.plan) × (every (q2exp_there l.plan l.m) l.i ≡ true)

abbrev pub decreases-loop-i : goal.decreases-loop-i
decreases-loop-i l = l.n - l.i
