-- `plan_tables::columns::product_columns` meets its contract: the expressions of the pu and of the grand products before i are gathered. Assumes nothing.
use mathlib.Core.Path.{sym, ◌∙◌}
use native.Mathlib.Omega.{arith}
use Rattle.plans.specs.Counts.{asked-size, asked-few}
use Rattle.plans.specs.Places.{product_inside, number_is}
use Rattle.plan_tables.proofs.Growing.{products-none, num-room, den-room, products-room, products-next, products-all}
use Rattle.plan_tables.proofs.columns.product_columns.Goals as goal

pub product_count-count-requires : goal.product_count-count-requires
product_count-count-requires c = c.requires.0.0.0

pub loop-i-init : goal.loop-i-init
loop-i-init c = (omega arith, λ l a. products-none c.args.plan.now c.requires.0 a)

pub product_at-num-requires : goal.product_at-num-requires
product_at-num-requires c = (c.requires.0.0.0, omega (arith, c.product_count-count.ensures.low, c.loop-i-test.true))

pub number_at-requires : goal.number_at-requires
number_at-requires c = omega (arith, c.requires.0.0.0, c.requires.0.0.1, c.product_count-count.ensures.is, c.product_count-count.ensures.low, c.loop-i-test.true, c.product_at-num.ensures.is, c.product_at-num.ensures.low, product_inside c.args.plan.now c.loop-i.i (omega (arith, c.product_count-count.ensures.is, c.loop-i-test.true)))

pub put_column-n-requires : goal.put_column-n-requires
put_column-n-requires c = (c.number_at.ensures.low, omega (arith, num-room c.args.plan.now c.requires.0 c.loop-i.i (omega (arith, c.loop-i-test.true, c.product_count-count.ensures.is)) (number_is c.args.plan.now c.number_at.ensures c.product_at-num.ensures.is), (c.loop-i.invariant.1 c.requires.1.0 c.requires.1.1).counted.tells.full), omega (arith, products-room c.args.plan.now c.requires.0 c.loop-i.i (omega (arith, c.loop-i-test.true, c.product_count-count.ensures.is)) (c.loop-i.invariant.1 c.requires.1.0 c.requires.1.1)))

pub overflow_add-num : goal.overflow_add-num
overflow_add-num c = omega (arith, c.requires.0.0.0, c.requires.0.0.1, c.product_count-count.ensures.is, c.product_count-count.ensures.low, c.loop-i-test.true, c.product_at-num.ensures.is, c.product_at-num.ensures.low, product_inside c.args.plan.now c.loop-i.i (omega (arith, c.product_count-count.ensures.is, c.loop-i-test.true)))

pub number_at-requires-in-loop-i : goal.number_at-requires-in-loop-i
number_at-requires-in-loop-i c = omega (arith, c.requires.0.0.0, c.requires.0.0.1, c.product_count-count.ensures.is, c.product_count-count.ensures.low, c.loop-i-test.true, c.product_at-num.ensures.is, c.product_at-num.ensures.low, product_inside c.args.plan.now c.loop-i.i (omega (arith, c.product_count-count.ensures.is, c.loop-i-test.true)))

pub put_column-n-requires-in-loop-i : goal.put_column-n-requires-in-loop-i
put_column-n-requires-in-loop-i c = (c.number_at-in-loop-i.ensures.low, omega (arith, den-room c.args.plan.now c.requires.0 c.loop-i.i (omega (arith, c.loop-i-test.true, c.product_count-count.ensures.is)) (number_is c.args.plan.now c.number_at-in-loop-i.ensures (omega (arith, c.product_at-num.ensures.is))), (c.loop-i.invariant.1 c.requires.1.0 c.requires.1.1).counted.tells.full, asked-size c.put_column-n.ensures.asked), omega (arith, products-room c.args.plan.now c.requires.0 c.loop-i.i (omega (arith, c.loop-i-test.true, c.product_count-count.ensures.is)) (c.loop-i.invariant.1 c.requires.1.0 c.requires.1.1), c.put_column-n.ensures.count, asked-few c.put_column-n.ensures.asked))

pub loop-i-smaller : goal.loop-i-smaller
loop-i-smaller c = omega (arith, c.loop-i-test.true)

pub loop-i-preserved : goal.loop-i-preserved
loop-i-preserved c = (omega (arith, c.loop-i-test.true, c.product_count-count.ensures.is), λ l a. products-next c.args.plan.now c.requires.0 c.loop-i.i (omega (arith, c.loop-i-test.true, c.product_count-count.ensures.is)) (c.loop-i.invariant.1 l a) (number_is c.args.plan.now c.number_at.ensures c.product_at-num.ensures.is) c.put_column-n.ensures (number_is c.args.plan.now c.number_at-in-loop-i.ensures (omega (arith, c.product_at-num.ensures.is))) c.put_column-n-in-loop-i.ensures)

pub shape_of-seen : goal.shape_of-seen
shape_of-seen c = (c.loop-i.invariant.1 c.requires.1.0 c.requires.1.1).counted.tells.full ∙ sym c.requires.1.1.counted.tells.full

pub returns : goal.returns
returns c = λ l a. products-all c.args.plan.now c.requires.0 c.loop-i.i c.loop-i.invariant.0 (omega (arith, c.loop-i-test.false, c.product_count-count.ensures.is)) (c.loop-i.invariant.1 l a)
