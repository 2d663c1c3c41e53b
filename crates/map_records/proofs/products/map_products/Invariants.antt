-- `map_records::products::map_products` meets its contract: the first i grand products are mapped. Assumes nothing.
use Prim.Native.Nat.{◌≤◌, ◌-◌}
use Rattle.pool.specs.Pool.{Pool}
use Rattle.plans.specs.Plan.{product_count}
use Rattle.map_records.specs.Mapping.{products}
use Rattle.map_records.specs.Tables.{State}
use Rattle.map_records.proofs.products.map_products.Given as goal

abbrev pub invariant-loop-i : goal.invariant-loop-i
invariant-loop-i l = (l.i ≤ product_count l.plan) × ((p : Pool) → State l.plan l.initial.sections l.initial.dims l.initial.cmdims l.initial.seen l.before (products l.plan p 0) → State l.plan l.sections l.dims l.cmdims l.seen l.n (products l.plan p l.i))

abbrev pub decreases-loop-i : goal.decreases-loop-i
decreases-loop-i l = l.count - l.i
