-- `builds::build::copy_taken` meets its contract: the blocks before k are copied, less those that are skipped.
-- Assumes nothing.
use Prim.Native.Nat.{◌-◌}
use Rattle.builds.specs.Numbered.{skips_at}
use Rattle.builds.proofs.Turns.{Listed}
use Rattle.builds.proofs.build.copy_taken.Given as goal

abbrev pub invariant-loop-k : goal.invariant-loop-k
invariant-loop-k l = Listed (skips_at l.blocks l.expressions l.m l.standing l.which) l.blocks l.list l.initial.out l.out l.n l.k l.from l.to

abbrev pub decreases-loop-k : goal.decreases-loop-k
decreases-loop-k l = l.n - l.k
