-- `builds::result::start_of` meets its contract: the steps of the blocks before k are counted.
-- Assumes nothing.
use Prim.Native.Nat.{◌-◌}
use Rattle.builds.proofs.Results.{Passed}
use Rattle.builds.proofs.result.start_of.Given as goal

abbrev pub invariant-loop-k : goal.invariant-loop-k
invariant-loop-k l = Passed l.blocks l.n l.k l.steps

abbrev pub decreases-loop-k : goal.decreases-loop-k
decreases-loop-k l = l.n - l.k
