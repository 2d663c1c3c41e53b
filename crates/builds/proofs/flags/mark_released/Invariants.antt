-- `builds::flags::mark_released` meets its contract: the expressions before e are done.
-- Assumes nothing.
use Prim.Native.Nat.{◌-◌}
use Rattle.builds.proofs.Turns.{Freed}
use Rattle.builds.proofs.flags.mark_released.Given as goal

abbrev pub invariant-loop-e : goal.invariant-loop-e
invariant-loop-e l = Freed l.expressions l.initial.marks l.marks l.m l.e

abbrev pub decreases-loop-e : goal.decreases-loop-e
decreases-loop-e l = l.m - l.e
