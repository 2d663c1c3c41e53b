-- `plan_tables::exp2pol::place_intermediates` meets its contract: the records of the intermediates before i stand there. Assumes nothing.
use mathlib.Core.Path.{ap}
use native.Mathlib.Omega.{arith}
use lib.ListN.{get_or}
use Rattle.plans.specs.Places.{at_same}
use Rattle.plan_tables.specs.Tables.{im_place}
use Rattle.plan_tables.proofs.Filled.{ims-below, ims-next, ims-all}
use Rattle.plan_tables.proofs.Placed.{place-there}
use Rattle.plan_tables.proofs.exp2pol.place_intermediates.Goals as goal

pub im_count-count-requires : goal.im_count-count-requires
im_count-count-requires c = c.requires.1.0.0

pub im_at-at-requires : goal.im_at-at-requires
im_at-at-requires c = c.requires.1.0.0

pub cm1_of-requires : goal.cm1_of-requires
cm1_of-requires c = c.requires.1.0.0

pub cm2_of-requires : goal.cm2_of-requires
cm2_of-requires c = c.requires.1.0.0

pub overflow_add-place : goal.overflow_add-place
overflow_add-place c = omega (arith, c.cm1_of.ensures.low, c.cm2_of.ensures.low)

pub product_count-requires : goal.product_count-requires
product_count-requires c = c.requires.1.0.0

pub overflow_add-place-2 : goal.overflow_add-place-2
overflow_add-place-2 c = omega (arith, c.cm1_of.ensures.low, c.cm2_of.ensures.low, c.product_count.ensures.low)

pub loop-i-init : goal.loop-i-init
loop-i-init c = (omega arith, λ n g before a. a.cells)

pub overflow_mul-i : goal.overflow_mul-i
overflow_mul-i c = omega (arith, c.requires.1.0.0, c.requires.1.0.1, c.im_count-count.ensures.is, c.im_count-count.ensures.low, c.im_at-at.ensures.is, c.im_at-at.ensures.low, c.cm1_of.ensures.low, c.cm2_of.ensures.low, c.product_count.ensures.low, c.loop-i-test.true)

pub overflow_add-at : goal.overflow_add-at
overflow_add-at c = omega (arith, c.requires.1.0.0, c.requires.1.0.1, c.im_count-count.ensures.is, c.im_count-count.ensures.low, c.im_at-at.ensures.is, c.im_at-at.ensures.low, c.cm1_of.ensures.low, c.cm2_of.ensures.low, c.product_count.ensures.low, c.loop-i-test.true)

pub number_at-e-requires : goal.number_at-e-requires
number_at-e-requires c = omega (arith, c.requires.1.0.0, c.requires.1.0.1, c.im_count-count.ensures.is, c.im_count-count.ensures.low, c.im_at-at.ensures.is, c.im_at-at.ensures.low, c.cm1_of.ensures.low, c.cm2_of.ensures.low, c.product_count.ensures.low, c.loop-i-test.true)

pub overflow_add-exp2pol : goal.overflow_add-exp2pol
overflow_add-exp2pol c = omega (arith, c.requires.1.0.0, c.requires.1.0.1, c.im_count-count.ensures.is, c.im_count-count.ensures.low, c.im_at-at.ensures.is, c.im_at-at.ensures.low, c.cm1_of.ensures.low, c.cm2_of.ensures.low, c.product_count.ensures.low, c.loop-i-test.true)

pub offset_bounds-cms-place : goal.offset_bounds-cms-place
offset_bounds-cms-place c = omega (arith, place-there c.args.plan.now c.requires.0 c.loop-i.i (omega (arith, c.loop-i-test.true, c.im_count-count.ensures.is)), c.cm1_of.ensures.is, c.cm2_of.ensures.is, c.product_count.ensures.is)

pub bounds-cms-place : goal.bounds-cms-place
bounds-cms-place c = omega (arith, place-there c.args.plan.now c.requires.0 c.loop-i.i (omega (arith, c.loop-i-test.true, c.im_count-count.ensures.is)), c.cm1_of.ensures.is, c.cm2_of.ensures.is, c.product_count.ensures.is)

pub offset_bounds-exp2pol-e : goal.offset_bounds-exp2pol-e
offset_bounds-exp2pol-e c = omega (arith, ims-below c.args.plan.now (λ j. get_or c.args.cms.now (im_place c.args.plan.now j) 0) c.requires.1.1.3 c.loop-i.i (omega (arith, c.loop-i-test.true, c.im_count-count.ensures.is)) (at_same c.args.plan.now _ c.number_at-e.ensures (omega (arith, c.im_at-at.ensures.is))))

pub bounds-exp2pol-e : goal.bounds-exp2pol-e
bounds-exp2pol-e c = ims-below c.args.plan.now (λ j. get_or c.args.cms.now (im_place c.args.plan.now j) 0) c.requires.1.1.3 c.loop-i.i (omega (arith, c.loop-i-test.true, c.im_count-count.ensures.is)) (at_same c.args.plan.now _ c.number_at-e.ensures (omega (arith, c.im_at-at.ensures.is)))

pub loop-i-smaller : goal.loop-i-smaller
loop-i-smaller c = omega (arith, c.loop-i-test.true)

pub loop-i-preserved : goal.loop-i-preserved
loop-i-preserved c = (omega (arith, c.loop-i-test.true, c.im_count-count.ensures.is), λ n g before a. ims-next c.args.plan.now (λ j. get_or c.args.cms.now (im_place c.args.plan.now j) 0) a c.loop-i.i (omega (arith, c.loop-i-test.true, c.im_count-count.ensures.is)) (at_same c.args.plan.now _ c.number_at-e.ensures (omega (arith, c.im_at-at.ensures.is))) (ap (λ z. get_or c.args.cms.now z 0) (omega (arith, c.cm1_of.ensures.is, c.cm2_of.ensures.is, c.product_count.ensures.is))) (c.loop-i.invariant.1 n g before a))

pub returns : goal.returns
returns c = λ n g before a. ims-all c.args.plan.now (λ j. get_or c.args.cms.now (im_place c.args.plan.now j) 0) a c.loop-i.i (omega (arith, c.loop-i-test.false, c.loop-i.invariant.0, c.im_count-count.ensures.is)) (c.loop-i.invariant.1 n g before a)
