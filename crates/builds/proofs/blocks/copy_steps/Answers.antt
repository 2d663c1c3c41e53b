-- `builds::blocks::copy_steps` meets its contract: the steps before i are copied.
-- Assumes nothing.
use native.Mathlib.Omega.{arith}
use Rattle.builds.proofs.Turns.{none-copied, one-copied, all-copied}
use Rattle.builds.proofs.blocks.copy_steps.Goals as goal

pub loop-i-init : goal.loop-i-init
loop-i-init c = none-copied _ _ _ _ _

pub overflow_add-to : goal.overflow_add-to
overflow_add-to c = omega (arith, c.loop-i-test.true, c.requires.fits, c.well_formed)

pub overflow_add-from : goal.overflow_add-from
overflow_add-from c = omega (arith, c.loop-i-test.true, c.requires.there, c.well_formed)

pub nth_step-requires : goal.nth_step-requires
nth_step-requires c = omega (arith, c.loop-i-test.true, c.requires.there)

pub put_nth_step-requires : goal.put_nth_step-requires
put_nth_step-requires c = omega (arith, c.loop-i-test.true, c.requires.fits, c.loop-i.invariant.size)

pub loop-i-smaller : goal.loop-i-smaller
loop-i-smaller c = omega (arith, c.loop-i-test.true)

pub loop-i-preserved : goal.loop-i-preserved
loop-i-preserved c = one-copied c.loop-i.invariant c.loop-i-test.true c.nth_step.ensures c.put_nth_step.ensures

pub shape_of-out : goal.shape_of-out
shape_of-out c = c.loop-i.invariant.size

pub returns : goal.returns
returns c = all-copied c.loop-i.invariant c.loop-i-test.false
