-- `plans::there::lookups_there` meets its contract: what the pu before i name is there. Assumes nothing.
use Prim.Native.Nat.{◌≤◌, ◌-◌}
use mathlib.Core.Path.{◌≡◌}
use mathlib.Core.Bool.{true}
use Rattle.plans.specs.Plan.{every, pu_count}
use Rattle.plans.specs.Agreement.{lookup_there}
use Rattle.plans.proofs.there.lookups_there.Given as goal

abbrev pub invariant-loop-i : goal.invariant-loop-i
invariant-loop-i l = (l.i ≤ pu_count l.plan) × (every (lookup_there l.plan l.m) l.i ≡ true)

abbrev pub decreases-loop-i : goal.decreases-loop-i
decreases-loop-i l = l.n - l.i
