-- `plans::count::mark_intermediates` meets its contract: the table tells the intermediates before i. Assumes nothing.
use Prim.Native.Nat.{◌+◌, ◌*◌}
use Rattle.plans.specs.Plan.{im_at}
use mathlib.Core.Path.{sym, ◌∙◌}
use native.Mathlib.Omega.{arith}
use Rattle.plans.specs.Places.{number_is}
use Rattle.plans.specs.Counts.{im-low, im-next, im-all}
use Rattle.plans.proofs.count.mark_intermediates.Goals as goal

pub im_count-n-requires : goal.im_count-n-requires
im_count-n-requires c = c.requires.1.whole.0

pub im_at-at-requires : goal.im_at-at-requires
im_at-at-requires c = c.requires.1.whole.0

pub loop-i-init : goal.loop-i-init
loop-i-init c = (omega arith, λ size a. a.blank)

pub overflow_mul-i : goal.overflow_mul-i
overflow_mul-i c = omega (arith, c.requires.1.whole.0, c.requires.1.whole.1, c.im_count-n.ensures.is, c.im_count-n.ensures.low, c.im_at-at.ensures.is, c.im_at-at.ensures.low, c.loop-i-test.true)

pub overflow_add-at : goal.overflow_add-at
overflow_add-at c = omega (arith, c.requires.1.whole.0, c.requires.1.whole.1, c.im_count-n.ensures.is, c.im_count-n.ensures.low, c.im_at-at.ensures.is, c.im_at-at.ensures.low, c.loop-i-test.true)

pub number_at-e-requires : goal.number_at-e-requires
number_at-e-requires c = omega (arith, c.requires.1.whole.0, c.requires.1.whole.1, c.im_count-n.ensures.is, c.im_count-n.ensures.low, c.im_at-at.ensures.is, c.im_at-at.ensures.low, c.loop-i-test.true)

pub bounds-seen-e : goal.bounds-seen-e
bounds-seen-e c = let n = number_is c.args.plan.now {j = im_at c.args.plan.now + 2 * c.loop-i.i} c.number_at-e.ensures (omega (arith, c.im_at-at.ensures.is)) in omega (arith, im-low c.args.plan.now c.requires.1 (omega (arith, c.loop-i-test.true, c.im_count-n.ensures.is)) n, (c.loop-i.invariant.1 c.requires.0 c.requires.1).full)

pub loop-i-smaller : goal.loop-i-smaller
loop-i-smaller c = omega (arith, c.loop-i-test.true)

pub loop-i-preserved : goal.loop-i-preserved
loop-i-preserved c = (omega (arith, c.loop-i-test.true, c.im_count-n.ensures.is), λ size a. let n = number_is c.args.plan.now {j = im_at c.args.plan.now + 2 * c.loop-i.i} c.number_at-e.ensures (omega (arith, c.im_at-at.ensures.is)) in im-next c.args.plan.now c.loop-i.i n.is (im-low c.args.plan.now a (omega (arith, c.loop-i-test.true, c.im_count-n.ensures.is)) n) (c.loop-i.invariant.1 size a))

pub shape_of-seen : goal.shape_of-seen
shape_of-seen c = (c.loop-i.invariant.1 c.requires.0 c.requires.1).full ∙ sym c.requires.1.blank.full

pub returns : goal.returns
returns c = λ size a. im-all c.args.plan.now c.loop-i.invariant.0 (omega (arith, c.loop-i-test.false, c.im_count-n.ensures.is)) (c.loop-i.invariant.1 size a)
