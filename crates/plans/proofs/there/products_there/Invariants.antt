-- `plans::there::products_there` meets its contract: what the grand products before i name is there. Assumes nothing.
use Prim.Native.Nat.{◌≤◌, ◌-◌}
use mathlib.Core.Path.{◌≡◌}
use mathlib.Core.Bool.{true}
use Rattle.plans.specs.Plan.{every, product_count}
use Rattle.plans.specs.Agreement.{product_there}
use Rattle.plans.proofs.there.products_there.Given as goal

abbrev pub invariant-loop-i : goal.invariant-loop-i
invariant-loop-i l = (l.i ≤ product_count l.plan) × (every (product_there l.plan l.m) l.i ≡ true)

abbrev pub decreases-loop-i : goal.decreases-loop-i
decreases-loop-i l = l.n - l.i
