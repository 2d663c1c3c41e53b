-- `builds::build::copy_taken` meets its contract: the blocks before k are copied, less those that are skipped.
-- Assumes nothing.
use native.Mathlib.Omega.{arith}
use Rattle.builds.proofs.Turns.{none-listed, block-fits, source-small, place-small, one-listed, all_listed}
use Rattle.builds.proofs.build.copy_taken.Goals as goal

pub loop-k-init : goal.loop-k-init
loop-k-init c = none-listed _ _ _ _ _

pub taken-count-requires : goal.taken-count-requires
taken-count-requires c = record { expressions = c.requires.blocks.expressions; there = omega (arith, c.loop-k-test.true, c.requires.blocks.few) }

pub copy_steps-requires : goal.copy_steps-requires
copy_steps-requires c = block-fits c.loop-k.invariant c.loop-k-test.true c.taken-count.ensures c.requires.there c.requires.fits

pub offset_bounds-blocks-k : goal.offset_bounds-blocks-k
offset_bounds-blocks-k c = omega (arith, c.loop-k-test.true, c.requires.blocks.few)

pub bounds-blocks-k : goal.bounds-blocks-k
bounds-blocks-k c = omega (arith, c.loop-k-test.true, c.requires.blocks.few)

pub steps_of-from-requires : goal.steps_of-from-requires
steps_of-from-requires c = tt

pub overflow_add-from : goal.overflow_add-from
overflow_add-from c = omega (arith, source-small c.loop-k.invariant c.loop-k-test.true c.taken-count.ensures c.steps_of-from.ensures, c.requires.blocks.steps)

pub overflow_add-to : goal.overflow_add-to
overflow_add-to c = omega (arith, place-small c.loop-k.invariant c.loop-k-test.true c.taken-count.ensures, c.requires.blocks.steps)

pub loop-k-smaller : goal.loop-k-smaller
loop-k-smaller c = omega (arith, c.loop-k-test.true)

pub loop-k-preserved : goal.loop-k-preserved
loop-k-preserved c = one-listed c.loop-k.invariant c.loop-k-test.true c.taken-count.ensures c.copy_steps.ensures c.steps_of-from.ensures

pub shape_of-out : goal.shape_of-out
shape_of-out c = c.loop-k.invariant.size

pub returns : goal.returns
returns c = all_listed c.loop-k.invariant c.loop-k-test.false
