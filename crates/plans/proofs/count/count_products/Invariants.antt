-- `plans::count::count_products` meets its contract: the columns of the pu and of the grand products before i are counted. Assumes nothing.
use Prim.Native.Nat.{◌≤◌, ◌-◌, ◌*◌, ◌+◌}
use Rattle.plans.specs.Plan.{number_limit, product_count}
use Rattle.plans.specs.Columns.{products}
use Rattle.plans.specs.Counting.{Counted}
use Rattle.plans.proofs.count.count_products.Given as goal

abbrev pub invariant-loop-i : goal.invariant-loop-i
invariant-loop-i l = (l.i ≤ product_count l.plan) × Counted number_limit l.plan (products l.plan l.i) l.count (2 * number_limit + 2 * l.i) l.seen

abbrev pub decreases-loop-i : goal.decreases-loop-i
decreases-loop-i l = l.n - l.i
