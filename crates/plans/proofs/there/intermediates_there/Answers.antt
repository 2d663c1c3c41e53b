-- `plans::there::intermediates_there` meets its contract: the expressions of the intermediates before i are there. Assumes nothing.
use mathlib.Core.Path.{refl}
use native.Mathlib.Omega.{arith}
use Rattle.plans.specs.Plan.{im_count}
use Rattle.plans.specs.Agreement.{im_there}
use Rattle.plans.specs.Every.{every-next, every-fails, every-ends, below-not, below-is}
use Rattle.plans.specs.Places.{at_same}
use Rattle.plans.proofs.there.intermediates_there.Goals as goal

pub im_count-n-requires : goal.im_count-n-requires
im_count-n-requires c = c.requires.0

pub im_at-at-requires : goal.im_at-at-requires
im_at-at-requires c = c.requires.0

pub loop-i-init : goal.loop-i-init
loop-i-init c = (omega arith, refl)

pub overflow_mul-i : goal.overflow_mul-i
overflow_mul-i c = omega (arith, c.requires.0, c.requires.1, c.im_count-n.ensures.is, c.im_count-n.ensures.low, c.im_at-at.ensures.is, c.im_at-at.ensures.low, c.loop-i-test.true)

pub overflow_add-at : goal.overflow_add-at
overflow_add-at c = omega (arith, c.requires.0, c.requires.1, c.im_count-n.ensures.is, c.im_count-n.ensures.low, c.im_at-at.ensures.is, c.im_at-at.ensures.low, c.loop-i-test.true)

pub number_at-requires : goal.number_at-requires
number_at-requires c = omega (arith, c.requires.0, c.requires.1, c.im_count-n.ensures.is, c.im_count-n.ensures.low, c.im_at-at.ensures.is, c.im_at-at.ensures.low, c.loop-i-test.true)

pub returns-then-m-number_at : goal.returns-then-m-number_at
returns-then-m-number_at c = every-fails (im_there c.args.plan.now c.args.m) (im_count c.args.plan.now) c.loop-i.i (omega (arith, c.loop-i-test.true, c.im_count-n.ensures.is)) (below-not (at_same c.args.plan.now _ c.number_at.ensures (omega (arith, c.im_at-at.ensures.is))) c.if-m-number_at.true)

pub loop-i-smaller : goal.loop-i-smaller
loop-i-smaller c = omega (arith, c.loop-i-test.true)

pub loop-i-preserved : goal.loop-i-preserved
loop-i-preserved c = (omega (arith, c.loop-i-test.true, c.im_count-n.ensures.is), every-next (im_there c.args.plan.now c.args.m) c.loop-i.i c.loop-i.invariant.1 (below-is (at_same c.args.plan.now _ c.number_at.ensures (omega (arith, c.im_at-at.ensures.is))) c.if-m-number_at.false))

pub returns : goal.returns
returns c = every-ends (im_there c.args.plan.now c.args.m) c.loop-i.invariant.0 (omega (arith, c.loop-i-test.false, c.im_count-n.ensures.is)) c.loop-i.invariant.1
