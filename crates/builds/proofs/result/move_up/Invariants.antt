-- `builds::result::move_up` meets its contract: the steps from k on are moved.
-- Assumes nothing.
use Rattle.builds.proofs.Results.{Moved}
use Rattle.builds.proofs.result.move_up.Given as goal

abbrev pub invariant-loop-k : goal.invariant-loop-k
invariant-loop-k l = Moved l.initial.list l.list l.pos l.end l.k

abbrev pub decreases-loop-k : goal.decreases-loop-k
decreases-loop-k l = l.k
