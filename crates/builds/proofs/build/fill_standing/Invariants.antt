-- `builds::build::fill_standing` meets its contract: the cells of the blocks before k are noted.
-- Assumes nothing.
use Prim.Native.Nat.{◌-◌}
use Rattle.builds.proofs.Turns.{Noted}
use Rattle.builds.proofs.build.fill_standing.Given as goal

abbrev pub invariant-loop-k : goal.invariant-loop-k
invariant-loop-k l = Noted l.blocks l.initial.standing l.standing l.n l.k

abbrev pub decreases-loop-k : goal.decreases-loop-k
decreases-loop-k l = l.n - l.k
