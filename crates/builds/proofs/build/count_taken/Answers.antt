-- `builds::build::count_taken` meets its contract: the steps taken of the blocks before k are counted.
-- Assumes nothing.
use native.Mathlib.Omega.{arith}
use Rattle.builds.proofs.Turns.{none-counted, one-fits, one-counted, all-counted}
use Rattle.builds.proofs.build.count_taken.Goals as goal

pub loop-k-init : goal.loop-k-init
loop-k-init c = none-counted _ _ _

pub taken-steps-requires : goal.taken-steps-requires
taken-steps-requires c = record { expressions = c.requires.expressions; there = omega (arith, c.loop-k-test.true, c.requires.few) }

pub overflow_add-steps : goal.overflow_add-steps
overflow_add-steps c = omega (arith, one-fits _ _ c.requires.steps c.loop-k.invariant c.loop-k-test.true c.taken-steps.ensures)

pub loop-k-smaller : goal.loop-k-smaller
loop-k-smaller c = omega (arith, c.loop-k-test.true)

pub loop-k-preserved : goal.loop-k-preserved
loop-k-preserved c = one-counted _ _ c.loop-k.invariant c.loop-k-test.true c.taken-steps.ensures

pub returns : goal.returns
returns c = all-counted _ _ c.loop-k.invariant c.loop-k-test.false
