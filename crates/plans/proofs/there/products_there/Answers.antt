-- `plans::there::products_there` meets its contract: what the grand products before i name is there. Assumes nothing.
use mathlib.Core.Path.{refl}
use native.Mathlib.Omega.{arith}
use Rattle.plans.specs.Plan.{product_count, num_of, den_of}
use Rattle.plans.specs.Agreement.{product_there}
use Rattle.plans.specs.Every.{every-next, every-fails, every-ends, both_first, both-second, both_are}
use Rattle.plans.specs.Places.{product_inside, at_same}
use Rattle.plans.proofs.there.products_there.Goals as goal

pub product_count-n-requires : goal.product_count-n-requires
product_count-n-requires c = c.requires.0

pub loop-i-init : goal.loop-i-init
loop-i-init c = (omega arith, refl)

pub product_at-num-requires : goal.product_at-num-requires
product_at-num-requires c = (c.requires.0, omega (arith, c.product_count-n.ensures.low, c.loop-i-test.true))

pub number_at-requires : goal.number_at-requires
number_at-requires c = omega (arith, c.requires.0, c.requires.1, c.product_count-n.ensures.is, c.product_count-n.ensures.low, c.loop-i-test.true, c.product_at-num.ensures.is, c.product_at-num.ensures.low, product_inside c.args.plan.now c.loop-i.i (omega (arith, c.product_count-n.ensures.is, c.loop-i-test.true)))

pub returns-then-m-number_at : goal.returns-then-m-number_at
returns-then-m-number_at c = every-fails (product_there c.args.plan.now c.args.m) (product_count c.args.plan.now) c.loop-i.i (omega (arith, c.loop-i-test.true, c.product_count-n.ensures.is)) (both_first (den_of c.args.plan.now c.loop-i.i) (at_same c.args.plan.now _ c.number_at.ensures c.product_at-num.ensures.is) c.if-m-number_at.true)

pub overflow_add-num : goal.overflow_add-num
overflow_add-num c = omega (arith, c.requires.0, c.requires.1, c.product_count-n.ensures.is, c.product_count-n.ensures.low, c.loop-i-test.true, c.product_at-num.ensures.is, c.product_at-num.ensures.low, product_inside c.args.plan.now c.loop-i.i (omega (arith, c.product_count-n.ensures.is, c.loop-i-test.true)))

pub number_at-requires-in-loop-i : goal.number_at-requires-in-loop-i
number_at-requires-in-loop-i c = omega (arith, c.requires.0, c.requires.1, c.product_count-n.ensures.is, c.product_count-n.ensures.low, c.loop-i-test.true, c.product_at-num.ensures.is, c.product_at-num.ensures.low, product_inside c.args.plan.now c.loop-i.i (omega (arith, c.product_count-n.ensures.is, c.loop-i-test.true)))

pub returns-then-m-number_at-2 : goal.returns-then-m-number_at-2
returns-then-m-number_at-2 c = every-fails (product_there c.args.plan.now c.args.m) (product_count c.args.plan.now) c.loop-i.i (omega (arith, c.loop-i-test.true, c.product_count-n.ensures.is)) (both-second (num_of c.args.plan.now c.loop-i.i) (at_same c.args.plan.now _ c.number_at-in-loop-i.ensures (omega (arith, c.product_at-num.ensures.is))) c.if-m-number_at-2.true)

pub loop-i-smaller : goal.loop-i-smaller
loop-i-smaller c = omega (arith, c.loop-i-test.true)

pub loop-i-preserved : goal.loop-i-preserved
loop-i-preserved c = (omega (arith, c.loop-i-test.true, c.product_count-n.ensures.is), every-next (product_there c.args.plan.now c.args.m) c.loop-i.i c.loop-i.invariant.1 (both_are (at_same c.args.plan.now _ c.number_at.ensures c.product_at-num.ensures.is) c.if-m-number_at.false (at_same c.args.plan.now _ c.number_at-in-loop-i.ensures (omega (arith, c.product_at-num.ensures.is))) c.if-m-number_at-2.false))

pub returns : goal.returns
returns c = every-ends (product_there c.args.plan.now c.args.m) c.loop-i.invariant.0 (omega (arith, c.loop-i-test.false, c.product_count-n.ensures.is)) c.loop-i.invariant.1
