-- `plans::count::count_products` meets its contract: the columns of the pu and of the grand products before i are counted. Assumes nothing.
use mathlib.Core.Path.{sym, ◌∙◌}
use native.Mathlib.Omega.{arith}
use Rattle.plans.specs.Places.{product_inside, at_same}
use Rattle.plans.specs.Counts.{asked-size, asked-few, no-products, products-next, products-end}
use Rattle.plans.proofs.count.count_products.Goals as goal

pub product_count-n-requires : goal.product_count-n-requires
product_count-n-requires c = c.requires.0.0

pub loop-i-init : goal.loop-i-init
loop-i-init c = (omega arith, no-products c.args.plan.now c.requires.1)

pub product_at-num-requires : goal.product_at-num-requires
product_at-num-requires c = (c.requires.0.0, omega (arith, c.product_count-n.ensures.low, c.loop-i-test.true))

pub number_at-requires : goal.number_at-requires
number_at-requires c = omega (arith, c.requires.0.0, c.requires.0.1, c.product_count-n.ensures.is, c.product_count-n.ensures.low, c.loop-i-test.true, c.product_at-num.ensures.is, c.product_at-num.ensures.low, product_inside c.args.plan.now c.loop-i.i (omega (arith, c.product_count-n.ensures.is, c.loop-i-test.true)))

pub ask-count-requires : goal.ask-count-requires
ask-count-requires c = omega (arith, c.number_at.ensures.low, c.loop-i.invariant.1.tells.full)

pub overflow_add-count : goal.overflow_add-count
overflow_add-count c = omega (arith, c.product_count-n.ensures.low, c.loop-i-test.true, c.loop-i.invariant.1.few, asked-few c.ask-count.ensures)

pub overflow_add-num : goal.overflow_add-num
overflow_add-num c = omega (arith, c.requires.0.0, c.requires.0.1, c.product_count-n.ensures.is, c.product_count-n.ensures.low, c.loop-i-test.true, c.product_at-num.ensures.is, c.product_at-num.ensures.low, product_inside c.args.plan.now c.loop-i.i (omega (arith, c.product_count-n.ensures.is, c.loop-i-test.true)))

pub number_at-requires-in-loop-i : goal.number_at-requires-in-loop-i
number_at-requires-in-loop-i c = omega (arith, c.requires.0.0, c.requires.0.1, c.product_count-n.ensures.is, c.product_count-n.ensures.low, c.loop-i-test.true, c.product_at-num.ensures.is, c.product_at-num.ensures.low, product_inside c.args.plan.now c.loop-i.i (omega (arith, c.product_count-n.ensures.is, c.loop-i-test.true)))

pub ask-count-requires-in-loop-i : goal.ask-count-requires-in-loop-i
ask-count-requires-in-loop-i c = omega (arith, c.number_at-in-loop-i.ensures.low, c.loop-i.invariant.1.tells.full, asked-size c.ask-count.ensures)

pub overflow_add-count-in-loop-i : goal.overflow_add-count-in-loop-i
overflow_add-count-in-loop-i c = omega (arith, c.product_count-n.ensures.low, c.loop-i-test.true, c.loop-i.invariant.1.few, asked-few c.ask-count.ensures, asked-few c.ask-count-in-loop-i.ensures)

pub loop-i-smaller : goal.loop-i-smaller
loop-i-smaller c = omega (arith, c.loop-i-test.true)

pub loop-i-preserved : goal.loop-i-preserved
loop-i-preserved c = (omega (arith, c.loop-i-test.true, c.product_count-n.ensures.is), products-next c.args.plan.now c.loop-i.i c.loop-i.invariant.1 (record { is = at_same c.args.plan.now _ c.number_at.ensures c.product_at-num.ensures.is; low = c.number_at.ensures.low }) c.ask-count.ensures (record { is = at_same c.args.plan.now _ c.number_at-in-loop-i.ensures (omega (arith, c.product_at-num.ensures.is)); low = c.number_at-in-loop-i.ensures.low }) c.ask-count-in-loop-i.ensures)

pub shape_of-seen : goal.shape_of-seen
shape_of-seen c = c.loop-i.invariant.1.tells.full ∙ sym c.requires.1.tells.full

pub returns : goal.returns
returns c = products-end c.args.plan.now c.loop-i.invariant.0 (omega (arith, c.loop-i-test.false, c.product_count-n.ensures.is)) (omega (arith, c.product_count-n.ensures.is, c.product_count-n.ensures.low)) c.loop-i.invariant.1
