-- `plans::count::count_lookups` meets its contract: the columns of the pu before i are counted. Assumes nothing.
use mathlib.Core.Path.{sym, ◌∙◌}
use native.Mathlib.Omega.{arith}
use Rattle.plans.specs.Counts.{asked-size, asked-few, no-lookups, lookups-next, lookups-end}
use Rattle.plans.proofs.count.count_lookups.Goals as goal

pub pu_count-n-requires : goal.pu_count-n-requires
pu_count-n-requires c = c.requires.0.0

pub loop-i-init : goal.loop-i-init
loop-i-init c = (omega arith, no-lookups c.args.plan.now c.requires.1)

pub overflow_mul-f : goal.overflow_mul-f
overflow_mul-f c = omega (arith, c.requires.0.0, c.requires.0.1, c.pu_count-n.ensures.is, c.pu_count-n.ensures.low, c.loop-i-test.true)

pub overflow_add-f : goal.overflow_add-f
overflow_add-f c = omega (arith, c.requires.0.0, c.requires.0.1, c.pu_count-n.ensures.is, c.pu_count-n.ensures.low, c.loop-i-test.true)

pub number_at-requires : goal.number_at-requires
number_at-requires c = omega (arith, c.requires.0.0, c.requires.0.1, c.pu_count-n.ensures.is, c.pu_count-n.ensures.low, c.loop-i-test.true)

pub ask-count-requires : goal.ask-count-requires
ask-count-requires c = omega (arith, c.number_at.ensures.low, c.loop-i.invariant.1.tells.full)

pub overflow_add-count : goal.overflow_add-count
overflow_add-count c = omega (arith, c.pu_count-n.ensures.low, c.loop-i-test.true, c.loop-i.invariant.1.few, asked-few c.ask-count.ensures)

pub overflow_add-f-in-loop-i : goal.overflow_add-f-in-loop-i
overflow_add-f-in-loop-i c = omega (arith, c.requires.0.0, c.requires.0.1, c.pu_count-n.ensures.is, c.pu_count-n.ensures.low, c.loop-i-test.true)

pub number_at-requires-in-loop-i : goal.number_at-requires-in-loop-i
number_at-requires-in-loop-i c = omega (arith, c.requires.0.0, c.requires.0.1, c.pu_count-n.ensures.is, c.pu_count-n.ensures.low, c.loop-i-test.true)

pub ask-count-requires-in-loop-i : goal.ask-count-requires-in-loop-i
ask-count-requires-in-loop-i c = omega (arith, c.number_at-in-loop-i.ensures.low, c.loop-i.invariant.1.tells.full, asked-size c.ask-count.ensures)

pub overflow_add-count-in-loop-i : goal.overflow_add-count-in-loop-i
overflow_add-count-in-loop-i c = omega (arith, c.pu_count-n.ensures.low, c.loop-i-test.true, c.loop-i.invariant.1.few, asked-few c.ask-count.ensures, asked-few c.ask-count-in-loop-i.ensures)

pub loop-i-smaller : goal.loop-i-smaller
loop-i-smaller c = omega (arith, c.loop-i-test.true)

pub loop-i-preserved : goal.loop-i-preserved
loop-i-preserved c = (omega (arith, c.loop-i-test.true, c.pu_count-n.ensures.is), lookups-next c.args.plan.now c.loop-i.i c.loop-i.invariant.1 c.number_at.ensures c.ask-count.ensures c.number_at-in-loop-i.ensures c.ask-count-in-loop-i.ensures)

pub shape_of-seen : goal.shape_of-seen
shape_of-seen c = c.loop-i.invariant.1.tells.full ∙ sym c.requires.1.full

pub returns : goal.returns
returns c = lookups-end c.args.plan.now c.loop-i.invariant.0 (omega (arith, c.loop-i-test.false, c.pu_count-n.ensures.is)) (omega (arith, c.pu_count-n.ensures.is, c.pu_count-n.ensures.low)) c.loop-i.invariant.1
