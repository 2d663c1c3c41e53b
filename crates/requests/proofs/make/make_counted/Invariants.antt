-- `requests::make::make_counted` meets its contract: what is left, written after what stands, is the whole.
-- Assumes nothing.
use Prim.Native.Nat.{◌-◌}
use mathlib.Core.List.{List}
use lib.ListN.{length}
use Rattle.meaning.specs.Order.{Job}
use Rattle.starkinfo_codegen.specs.Emitting.{Rest}
use Rattle.requests.specs.Making.{JobsAsk, Room}
use Rattle.requests.proofs.Makes.{Progress}
use Rattle.requests.proofs.make.make_counted.Given as goal

abbrev pub invariant-loop-k : goal.invariant-loop-k
invariant-loop-k l = (b : Rest) (js : List Job) (a : JobsAsk l.nodes l.expressions b js l.jobs l.n) (o : Room l.nodes l.expressions b js l.initial.at l.initial.t (length l.initial.list)) → Progress l.nodes l.expressions b js a l.initial.list o l.list l.at l.t l.k

abbrev pub decreases-loop-k : goal.decreases-loop-k
decreases-loop-k l = l.n - l.k
