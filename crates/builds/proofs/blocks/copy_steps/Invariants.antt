-- `builds::blocks::copy_steps` meets its contract: the steps before i are copied.
-- Assumes nothing.
use Prim.Native.Nat.{◌-◌}
use Rattle.builds.proofs.Turns.{Copied}
use Rattle.builds.proofs.blocks.copy_steps.Given as goal

abbrev pub invariant-loop-i : goal.invariant-loop-i
invariant-loop-i l = Copied l.list l.initial.out l.out l.from l.to l.count l.i

abbrev pub decreases-loop-i : goal.decreases-loop-i
decreases-loop-i l = l.count - l.i
