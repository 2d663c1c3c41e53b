-- `plan_tables::columns::lookup_columns` meets its contract: the expressions of the pu before i are gathered. Assumes nothing.
use mathlib.Core.Path.{sym, ◌∙◌}
use native.Mathlib.Omega.{arith}
use Rattle.plans.specs.Counts.{asked-size, asked-few}
use Rattle.plan_tables.proofs.Growing.{lookups-none, f-room, t-room, lookups-room, lookups-next, lookups-all}
use Rattle.plan_tables.proofs.columns.lookup_columns.Goals as goal

pub pu_count-count-requires : goal.pu_count-count-requires
pu_count-count-requires c = c.requires.0.0.0

pub loop-i-init : goal.loop-i-init
loop-i-init c = (omega arith, lookups-none c.args.plan.now c.requires.0 c.args.columns.now c.requires.1)

pub overflow_mul-f : goal.overflow_mul-f
overflow_mul-f c = omega (arith, c.requires.0.0.0, c.requires.0.0.1, c.pu_count-count.ensures.is, c.pu_count-count.ensures.low, c.loop-i-test.true)

pub overflow_add-f : goal.overflow_add-f
overflow_add-f c = omega (arith, c.requires.0.0.0, c.requires.0.0.1, c.pu_count-count.ensures.is, c.pu_count-count.ensures.low, c.loop-i-test.true)

pub number_at-requires : goal.number_at-requires
number_at-requires c = omega (arith, c.requires.0.0.0, c.requires.0.0.1, c.pu_count-count.ensures.is, c.pu_count-count.ensures.low, c.loop-i-test.true)

pub put_column-n-requires : goal.put_column-n-requires
put_column-n-requires c = (c.number_at.ensures.low, omega (arith, f-room c.args.plan.now c.requires.0 c.loop-i.i (omega (arith, c.loop-i-test.true, c.pu_count-count.ensures.is)) c.number_at.ensures, c.loop-i.invariant.1.counted.tells.full), omega (arith, lookups-room c.args.plan.now c.requires.0 c.loop-i.i (omega (arith, c.loop-i-test.true, c.pu_count-count.ensures.is)) c.loop-i.invariant.1))

pub overflow_add-f-in-loop-i : goal.overflow_add-f-in-loop-i
overflow_add-f-in-loop-i c = omega (arith, c.requires.0.0.0, c.requires.0.0.1, c.pu_count-count.ensures.is, c.pu_count-count.ensures.low, c.loop-i-test.true)

pub number_at-requires-in-loop-i : goal.number_at-requires-in-loop-i
number_at-requires-in-loop-i c = omega (arith, c.requires.0.0.0, c.requires.0.0.1, c.pu_count-count.ensures.is, c.pu_count-count.ensures.low, c.loop-i-test.true)

pub put_column-n-requires-in-loop-i : goal.put_column-n-requires-in-loop-i
put_column-n-requires-in-loop-i c = (c.number_at-in-loop-i.ensures.low, omega (arith, t-room c.args.plan.now c.requires.0 c.loop-i.i (omega (arith, c.loop-i-test.true, c.pu_count-count.ensures.is)) c.number_at-in-loop-i.ensures, c.loop-i.invariant.1.counted.tells.full, asked-size c.put_column-n.ensures.asked), omega (arith, lookups-room c.args.plan.now c.requires.0 c.loop-i.i (omega (arith, c.loop-i-test.true, c.pu_count-count.ensures.is)) c.loop-i.invariant.1, c.put_column-n.ensures.count, asked-few c.put_column-n.ensures.asked))

pub loop-i-smaller : goal.loop-i-smaller
loop-i-smaller c = omega (arith, c.loop-i-test.true)

pub loop-i-preserved : goal.loop-i-preserved
loop-i-preserved c = (omega (arith, c.loop-i-test.true, c.pu_count-count.ensures.is), lookups-next c.args.plan.now c.requires.0 c.loop-i.i (omega (arith, c.loop-i-test.true, c.pu_count-count.ensures.is)) c.loop-i.invariant.1 c.number_at.ensures c.put_column-n.ensures c.number_at-in-loop-i.ensures c.put_column-n-in-loop-i.ensures)

pub shape_of-seen : goal.shape_of-seen
shape_of-seen c = c.loop-i.invariant.1.counted.tells.full ∙ sym c.requires.1.full

pub returns : goal.returns
returns c = lookups-all c.args.plan.now c.requires.0 c.loop-i.i c.loop-i.invariant.0 (omega (arith, c.loop-i-test.false, c.pu_count-count.ensures.is)) c.loop-i.invariant.1
