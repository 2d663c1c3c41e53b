-- `builds::result::move_up` meets its contract: the steps from k on are moved.
-- Assumes nothing.
use native.Mathlib.Omega.{arith}
use Rattle.builds.proofs.Results.{none-moved, one-moved, all_moved}
use Rattle.builds.proofs.result.move_up.Goals as goal

pub loop-k-init : goal.loop-k-init
loop-k-init c = none-moved _ _ _ c.requires.inside

pub nth_step-requires : goal.nth_step-requires
nth_step-requires c = omega (arith, c.loop-k-test.true, c.loop-k.invariant.high, c.loop-k.invariant.size, c.requires.fits)

pub put_nth_step-requires : goal.put_nth_step-requires
put_nth_step-requires c = omega (arith, c.loop-k-test.true, c.loop-k.invariant.high, c.loop-k.invariant.size, c.requires.fits)

pub loop-k-smaller : goal.loop-k-smaller
loop-k-smaller c = omega (arith, c.loop-k-test.true)

pub loop-k-preserved : goal.loop-k-preserved
loop-k-preserved c = one-moved c.loop-k.invariant c.loop-k-test.true c.nth_step.ensures c.put_nth_step.ensures

pub shape_of-list : goal.shape_of-list
shape_of-list c = c.loop-k.invariant.size

pub returns : goal.returns
returns c = all_moved c.loop-k.invariant c.loop-k-test.false
