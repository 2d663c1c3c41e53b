-- `plans::there::leaves_there` meets its contract: what the nodes before i read is there. Assumes nothing.
use Prim.Native.Nat.{◌≤◌, ◌-◌}
use mathlib.Core.Path.{◌≡◌}
use mathlib.Core.Bool.{true}
use Rattle.plans.specs.Plan.{every}
use Rattle.plans.specs.Agreement.{node_there}
use Rattle.plans.proofs.there.leaves_there.Given as goal

abbrev pub invariant-loop-i : goal.invariant-loop-i
invariant-loop-i l = (l.i ≤ l.n) × (every (node_there l.nodes l.cms l.qs) l.i ≡ true)

abbrev pub decreases-loop-i : goal.decreases-loop-i
decreases-loop-i l = l.n - l.i
