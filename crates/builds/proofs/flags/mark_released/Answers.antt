-- `builds::flags::mark_released` meets its contract: the expressions before e are done.
-- Assumes nothing.
use native.Mathlib.Omega.{arith}
use Rattle.builds.proofs.Turns.{none_freed, one_freed, all_freed}
use Rattle.builds.proofs.flags.mark_released.Goals as goal

pub loop-e-init : goal.loop-e-init
loop-e-init c = none_freed _ _ _

pub release_one-requires : goal.release_one-requires
release_one-requires c = omega (arith, c.loop-e-test.true, c.requires)

pub loop-e-smaller : goal.loop-e-smaller
loop-e-smaller c = omega (arith, c.loop-e-test.true)

pub loop-e-preserved : goal.loop-e-preserved
loop-e-preserved c = one_freed c.loop-e.invariant c.loop-e-test.true c.release_one.ensures

pub returns : goal.returns
returns c = all_freed c.loop-e.invariant c.loop-e-test.false
