-- `plan_tables::columns::product_columns` meets its contract: the expressions of the pu and of the grand products before i are gathered. Assumes nothing.
use Prim.Native.Nat.{ℕ, ◌+◌, ◌*◌, ◌≤◌, ◌-◌}
use mathlib.Core.List.{List}
use Rattle.plans.specs.Plan.{pu_count, product_count}
use Rattle.plans.specs.Columns.{products}
use Rattle.plan_tables.specs.Gathered.{Gathered, AfterLookups}
use Rattle.plan_tables.proofs.columns.product_columns.Given as goal

abbrev pub invariant-loop-i : goal.invariant-loop-i
invariant-loop-i v = (v.i ≤ product_count v.plan) × ((l : List ℕ) → AfterLookups v.plan l v.initial.seen v.initial.columns v.before → Gathered v.plan l (2 * pu_count v.plan + 2 * v.i) v.seen v.columns v.n (products v.plan v.i))

abbrev pub decreases-loop-i : goal.decreases-loop-i
decreases-loop-i v = v.count - v.i
