-- `builds::build::count_taken` meets its contract: the steps taken of the blocks before k are counted.
-- Assumes nothing.
use Prim.Native.Nat.{◌-◌}
use Rattle.builds.specs.Numbered.{skips_at}
use Rattle.builds.proofs.Turns.{Counted}
use Rattle.builds.proofs.build.count_taken.Given as goal

abbrev pub invariant-loop-k : goal.invariant-loop-k
invariant-loop-k l = Counted (skips_at l.blocks l.expressions l.m l.standing l.which) l.blocks l.n l.k l.steps

abbrev pub decreases-loop-k : goal.decreases-loop-k
decreases-loop-k l = l.n - l.k
