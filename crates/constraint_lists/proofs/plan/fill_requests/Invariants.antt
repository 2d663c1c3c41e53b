-- `constraint_lists::plan::fill_requests` meets its contract: the first k requests are filled in.
-- Assumes nothing.
use Prim.Native.Nat.{◌-◌}
use lib.ListN.{length}
use Rattle.constraint_lists.proofs.Requested.{Filled}
use Rattle.constraint_lists.proofs.plan.fill_requests.Given as goal

abbrev pub invariant-loop-k : goal.invariant-loop-k
invariant-loop-k l = Filled l.asked l.requests l.k

abbrev pub decreases-loop-k : goal.decreases-loop-k
decreases-loop-k l = length l.asked - l.k
