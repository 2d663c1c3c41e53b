-- `requests::plan::plan_all` meets its contract: the first k requests gave the jobs and marks that stand in the tables.
-- Assumes nothing.
use Prim.Native.Nat.{◌≤◌, ◌-◌}
use Rattle.pool.specs.Trees.{forest}
use Rattle.meaning.specs.Trees.{Acyclic}
use Rattle.starkinfo_codegen.specs.Emitting.{Rest, pool_of}
use Rattle.requests.specs.Planning.{PlanAsks}
use Rattle.requests.proofs.Plans.{Progress}
use Rattle.requests.proofs.plan.plan_all.Given as goal

abbrev pub invariant-loop-k : goal.invariant-loop-k
invariant-loop-k l = (b : Rest) (A : Acyclic (forest (pool_of l.nodes b))) (a : PlanAsks l.nodes l.expressions b A l.requests l.initial.marks l.initial.jobs l.m l.count) → (l.k ≤ l.count) × Progress l.nodes l.expressions b A a l.marks l.jobs l.n l.k

abbrev pub decreases-loop-k : goal.decreases-loop-k
decreases-loop-k l = l.count - l.k
