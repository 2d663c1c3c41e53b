-- `requests::place::place_all` meets its contract: the words of the jobs before k stand in the table.
-- Assumes nothing.
use Prim.Native.Nat.{◌-◌}
use mathlib.Core.List.{List}
use Rattle.meaning.specs.Order.{Job}
use Rattle.starkinfo_codegen.specs.Emitting.{Rest}
use Rattle.requests.specs.Placing.{PlaceAsks}
use Rattle.requests.proofs.Places.{Placed}
use Rattle.requests.proofs.place.place_all.Given as goal

abbrev pub invariant-loop-k : goal.invariant-loop-k
invariant-loop-k l = (b : Rest) (js : List Job) (a : PlaceAsks l.nodes l.expressions b js l.jobs l.initial.words l.n l.from) → Placed l.nodes l.expressions b js a l.words l.k

abbrev pub decreases-loop-k : goal.decreases-loop-k
decreases-loop-k l = l.n - l.k
