-- `builds::result::start_of` meets its contract: the steps of the blocks before k are counted.
-- Assumes nothing.
use native.Mathlib.Omega.{arith}
use Rattle.builds.proofs.Results.{none_passed, passed-small, one-passed, all-passed}
use Rattle.builds.proofs.result.start_of.Goals as goal

pub loop-k-init : goal.loop-k-init
loop-k-init c = none_passed _ _

pub offset_bounds-blocks-k : goal.offset_bounds-blocks-k
offset_bounds-blocks-k c = omega (arith, c.loop-k-test.true, c.requires.few)

pub bounds-blocks-k : goal.bounds-blocks-k
bounds-blocks-k c = omega (arith, c.loop-k-test.true, c.requires.few)

pub steps_of-steps-requires : goal.steps_of-steps-requires
steps_of-steps-requires c = tt

pub overflow_add-steps : goal.overflow_add-steps
overflow_add-steps c = omega (arith, passed-small c.loop-k.invariant c.loop-k-test.true c.steps_of-steps.ensures, c.requires.steps)

pub loop-k-smaller : goal.loop-k-smaller
loop-k-smaller c = omega (arith, c.loop-k-test.true)

pub loop-k-preserved : goal.loop-k-preserved
loop-k-preserved c = one-passed c.loop-k.invariant c.loop-k-test.true c.steps_of-steps.ensures

pub returns : goal.returns
returns c = all-passed c.loop-k.invariant c.loop-k-test.false
