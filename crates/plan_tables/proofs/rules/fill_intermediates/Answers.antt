-- `plan_tables::rules::fill_intermediates` meets its contract: the rules of the intermediates before i stand there. Assumes nothing.
use mathlib.Core.Path.{◌∙◌, ap}
use native.Mathlib.Omega.{arith}
use Rattle.kinds.specs.KindBytes as kind
use Rattle.plans.specs.Plan.{im_cm}
use Rattle.plans.specs.Places.{at_same}
use Rattle.plan_tables.specs.Tables.{packed}
use Rattle.plan_tables.proofs.Filled.{ims-below, ims-next, ims-all}
use Rattle.plan_tables.proofs.rules.fill_intermediates.Goals as goal

pub im_count-count-requires : goal.im_count-count-requires
im_count-count-requires c = c.requires.0.0

pub im_at-at-requires : goal.im_at-at-requires
im_at-at-requires c = c.requires.0.0

pub loop-i-init : goal.loop-i-init
loop-i-init c = (omega arith, λ n g before a. a.cells)

pub overflow_mul-i : goal.overflow_mul-i
overflow_mul-i c = omega (arith, c.requires.0.0, c.requires.0.1, c.im_count-count.ensures.is, c.im_count-count.ensures.low, c.im_at-at.ensures.is, c.im_at-at.ensures.low, c.loop-i-test.true)

pub overflow_add-at : goal.overflow_add-at
overflow_add-at c = omega (arith, c.requires.0.0, c.requires.0.1, c.im_count-count.ensures.is, c.im_count-count.ensures.low, c.im_at-at.ensures.is, c.im_at-at.ensures.low, c.loop-i-test.true)

pub number_at-e-requires : goal.number_at-e-requires
number_at-e-requires c = omega (arith, c.requires.0.0, c.requires.0.1, c.im_count-count.ensures.is, c.im_count-count.ensures.low, c.im_at-at.ensures.is, c.im_at-at.ensures.low, c.loop-i-test.true)

pub overflow_mul-i-in-loop-i : goal.overflow_mul-i-in-loop-i
overflow_mul-i-in-loop-i c = omega (arith, c.requires.0.0, c.requires.0.1, c.im_count-count.ensures.is, c.im_count-count.ensures.low, c.im_at-at.ensures.is, c.im_at-at.ensures.low, c.loop-i-test.true)

pub overflow_add-at-in-loop-i : goal.overflow_add-at-in-loop-i
overflow_add-at-in-loop-i c = omega (arith, c.requires.0.0, c.requires.0.1, c.im_count-count.ensures.is, c.im_count-count.ensures.low, c.im_at-at.ensures.is, c.im_at-at.ensures.low, c.loop-i-test.true)

pub overflow_add-at-in-loop-i-2 : goal.overflow_add-at-in-loop-i-2
overflow_add-at-in-loop-i-2 c = omega (arith, c.requires.0.0, c.requires.0.1, c.im_count-count.ensures.is, c.im_count-count.ensures.low, c.im_at-at.ensures.is, c.im_at-at.ensures.low, c.loop-i-test.true)

pub number_at-cm-requires : goal.number_at-cm-requires
number_at-cm-requires c = omega (arith, c.requires.0.0, c.requires.0.1, c.im_count-count.ensures.is, c.im_count-count.ensures.low, c.im_at-at.ensures.is, c.im_at-at.ensures.low, c.loop-i-test.true)

pub pack-requires : goal.pack-requires
pack-requires c = c.number_at-cm.ensures.low

pub offset_bounds-rules-e : goal.offset_bounds-rules-e
offset_bounds-rules-e c = omega (arith, ims-below c.args.plan.now (λ j. packed kind.cm (im_cm c.args.plan.now j) 0) c.requires.1.3 c.loop-i.i (omega (arith, c.loop-i-test.true, c.im_count-count.ensures.is)) (at_same c.args.plan.now _ c.number_at-e.ensures (omega (arith, c.im_at-at.ensures.is))))

pub bounds-rules-e : goal.bounds-rules-e
bounds-rules-e c = ims-below c.args.plan.now (λ j. packed kind.cm (im_cm c.args.plan.now j) 0) c.requires.1.3 c.loop-i.i (omega (arith, c.loop-i-test.true, c.im_count-count.ensures.is)) (at_same c.args.plan.now _ c.number_at-e.ensures (omega (arith, c.im_at-at.ensures.is)))

pub loop-i-smaller : goal.loop-i-smaller
loop-i-smaller c = omega (arith, c.loop-i-test.true)

pub loop-i-preserved : goal.loop-i-preserved
loop-i-preserved c = (omega (arith, c.loop-i-test.true, c.im_count-count.ensures.is), λ n g before a. ims-next c.args.plan.now (λ j. packed kind.cm (im_cm c.args.plan.now j) 0) a c.loop-i.i (omega (arith, c.loop-i-test.true, c.im_count-count.ensures.is)) (at_same c.args.plan.now _ c.number_at-e.ensures (omega (arith, c.im_at-at.ensures.is))) (c.pack.ensures ∙ ap (λ z. packed kind.cm z 0) (at_same c.args.plan.now _ c.number_at-cm.ensures (omega (arith, c.im_at-at.ensures.is)))) (c.loop-i.invariant.1 n g before a))

pub returns : goal.returns
returns c = λ n g before a. ims-all c.args.plan.now (λ j. packed kind.cm (im_cm c.args.plan.now j) 0) a c.loop-i.i (omega (arith, c.loop-i-test.false, c.loop-i.invariant.0, c.im_count-count.ensures.is)) (c.loop-i.invariant.1 n g before a)
