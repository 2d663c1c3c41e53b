-- `requests::make::size_all` meets its contract: the steps of the jobs before k are counted.
-- Assumes nothing.
use Prim.Native.Nat.{◌-◌}
use mathlib.Core.List.{List}
use Rattle.meaning.specs.Order.{Job}
use Rattle.starkinfo_codegen.specs.Emitting.{Rest}
use Rattle.requests.specs.Making.{JobsAsk}
use Rattle.requests.proofs.Makes.{Counted}
use Rattle.requests.proofs.make.size_all.Given as goal

abbrev pub invariant-loop-k : goal.invariant-loop-k
invariant-loop-k l = (b : Rest) (js : List Job) (a : JobsAsk l.nodes l.expressions b js l.jobs l.n) → Counted l.nodes l.expressions b js a l.steps l.k

abbrev pub decreases-loop-k : goal.decreases-loop-k
decreases-loop-k l = l.n - l.k
