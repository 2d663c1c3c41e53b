-- `map_records::rest::map_intermediates` meets its contract: the first i intermediates are mapped. Assumes nothing.
use mathlib.Core.Path.{refl, sym, ◌∙◌}
use native.Mathlib.Omega.{arith}
use Rattle.pool.specs.Tabled.{tabled}
use Rattle.pool.specs.Ranking.{Tabling}
use Rattle.map_records.specs.Mapping.{intermediates}
use Rattle.map_records.specs.Sizes.{intermediates-fit}
use Rattle.plans.specs.Passed.{counts-agree}
use Rattle.plans.specs.Places.{at_same}
use Rattle.map_records.specs.Agreed.{few-cms}
use Rattle.map_records.proofs.Parts.{held_at, im-asks, im-room, im-next}
use Rattle.map_records.proofs.rest.map_intermediates.Goals as goal

pub im_count-count-requires : goal.im_count-count-requires
im_count-count-requires c = c.requires.4.ready.planned.whole.0

pub im_at-at-requires : goal.im_at-at-requires
im_at-at-requires c = c.requires.4.ready.planned.whole.0

pub cm1_of-requires : goal.cm1_of-requires
cm1_of-requires c = c.requires.4.ready.planned.whole.0

pub cm2_of-requires : goal.cm2_of-requires
cm2_of-requires c = c.requires.4.ready.planned.whole.0

pub overflow_add-z : goal.overflow_add-z
overflow_add-z c = omega (arith, c.cm1_of.ensures.low, c.cm2_of.ensures.low)

pub loop-i-init : goal.loop-i-init
loop-i-init c = (omega arith, λ l k m rank a. held_at (intermediates c.args.plan.now (tabled (Tabling c.args.nodes.now l c.args.expressions.now k m))) a.holds refl (omega arith))

pub overflow_mul-i : goal.overflow_mul-i
overflow_mul-i c = omega (arith, c.requires.4.ready.planned.whole.0, c.requires.4.ready.planned.whole.1, c.im_count-count.ensures.is, c.im_count-count.ensures.low, c.im_at-at.ensures.is, c.im_at-at.ensures.low, c.cm1_of.ensures.low, c.cm2_of.ensures.low, c.loop-i-test.true)

pub overflow_add-at : goal.overflow_add-at
overflow_add-at c = omega (arith, c.requires.4.ready.planned.whole.0, c.requires.4.ready.planned.whole.1, c.im_count-count.ensures.is, c.im_count-count.ensures.low, c.im_at-at.ensures.is, c.im_at-at.ensures.low, c.cm1_of.ensures.low, c.cm2_of.ensures.low, c.loop-i-test.true)

pub number_at-e-requires : goal.number_at-e-requires
number_at-e-requires c = omega (arith, c.requires.4.ready.planned.whole.0, c.requires.4.ready.planned.whole.1, c.im_count-count.ensures.is, c.im_count-count.ensures.low, c.im_at-at.ensures.is, c.im_at-at.ensures.low, c.cm1_of.ensures.low, c.cm2_of.ensures.low, c.loop-i-test.true)

pub exp_dim-d-requires : goal.exp_dim-d-requires
exp_dim-d-requires c = (c.requires.0, c.requires.1, c.requires.2, c.requires.3, im-asks c.requires.4 c.loop-i.i (omega (arith, c.loop-i-test.true, c.im_count-count.ensures.is)) (at_same c.args.plan.now _ c.number_at-e.ensures (omega (arith, c.im_at-at.ensures.is))))

pub overflow_mul-i-in-loop-i : goal.overflow_mul-i-in-loop-i
overflow_mul-i-in-loop-i c = omega (arith, im-room c.requires.4 c.loop-i.i (omega (arith, c.loop-i-test.true, c.im_count-count.ensures.is)) (at_same c.args.plan.now _ c.number_at-e.ensures (omega (arith, c.im_at-at.ensures.is))) (c.loop-i.invariant.1 c.requires.0 c.requires.1 c.requires.2 c.requires.3 c.requires.4))

pub overflow_add-before : goal.overflow_add-before
overflow_add-before c = omega (arith, im-room c.requires.4 c.loop-i.i (omega (arith, c.loop-i-test.true, c.im_count-count.ensures.is)) (at_same c.args.plan.now _ c.number_at-e.ensures (omega (arith, c.im_at-at.ensures.is))) (c.loop-i.invariant.1 c.requires.0 c.requires.1 c.requires.2 c.requires.3 c.requires.4))

pub add_pair-requires : goal.add_pair-requires
add_pair-requires c = (im-room c.requires.4 c.loop-i.i (omega (arith, c.loop-i-test.true, c.im_count-count.ensures.is)) (at_same c.args.plan.now _ c.number_at-e.ensures (omega (arith, c.im_at-at.ensures.is))) (c.loop-i.invariant.1 c.requires.0 c.requires.1 c.requires.2 c.requires.3 c.requires.4), omega arith)

pub overflow_add-cmdims : goal.overflow_add-cmdims
overflow_add-cmdims c = omega (arith, few-cms c.args.plan.now c.requires.4.ready.planned, (counts-agree c.args.plan.now c.requires.4.ready.planned.agree).third, c.loop-i-test.true, c.im_count-count.ensures.is, c.cm1_of.ensures.is, c.cm2_of.ensures.is)

pub offset_bounds-cmdims-z : goal.offset_bounds-cmdims-z
offset_bounds-cmdims-z c = omega (arith, few-cms c.args.plan.now c.requires.4.ready.planned, (counts-agree c.args.plan.now c.requires.4.ready.planned.agree).third, c.loop-i-test.true, c.im_count-count.ensures.is, c.cm1_of.ensures.is, c.cm2_of.ensures.is)

pub bounds-cmdims-z : goal.bounds-cmdims-z
bounds-cmdims-z c = omega (arith, (c.loop-i.invariant.1 c.requires.0 c.requires.1 c.requires.2 c.requires.3 c.requires.4).cm_size, few-cms c.args.plan.now c.requires.4.ready.planned, (counts-agree c.args.plan.now c.requires.4.ready.planned.agree).third, c.loop-i-test.true, c.im_count-count.ensures.is, c.cm1_of.ensures.is, c.cm2_of.ensures.is)

pub loop-i-smaller : goal.loop-i-smaller
loop-i-smaller c = omega (arith, c.loop-i-test.true)

pub loop-i-preserved : goal.loop-i-preserved
loop-i-preserved c = (omega (arith, c.loop-i-test.true, c.im_count-count.ensures.is), λ l k m rank a. im-next a c.loop-i.i (omega (arith, c.loop-i-test.true, c.im_count-count.ensures.is)) (at_same c.args.plan.now _ c.number_at-e.ensures (omega (arith, c.im_at-at.ensures.is))) (c.loop-i.invariant.1 l k m rank a) (c.exp_dim-d.ensures l k m rank (im-asks a c.loop-i.i (omega (arith, c.loop-i-test.true, c.im_count-count.ensures.is)) (at_same c.args.plan.now _ c.number_at-e.ensures (omega (arith, c.im_at-at.ensures.is))))) (omega (arith, c.cm1_of.ensures.is, c.cm2_of.ensures.is)) c.add_pair.ensures.0 c.add_pair.ensures.1)

pub overflow_mul-result : goal.overflow_mul-result
overflow_mul-result c = omega (arith, c.im_count-count.ensures.low)

pub overflow_add-result : goal.overflow_add-result
overflow_add-result c = let h = (c.loop-i.invariant.1 c.requires.0 c.requires.1 c.requires.2 c.requires.3 c.requires.4) in let f = intermediates-fit c.args.plan.now (tabled (Tabling c.args.nodes.now c.requires.0 c.args.expressions.now c.requires.1 c.requires.2)) c.requires.4.ready.planned.fits c.loop-i.i c.loop-i.invariant.0 in omega (arith, h.count, f, c.loop-i-test.false, c.loop-i.invariant.0, c.im_count-count.ensures.is)

pub shape_of-cmdims : goal.shape_of-cmdims
shape_of-cmdims c = (c.loop-i.invariant.1 c.requires.0 c.requires.1 c.requires.2 c.requires.3 c.requires.4).cm_size ∙ sym c.requires.4.holds.cm_size

pub returns : goal.returns
returns c = λ l k m rank a. held_at (intermediates c.args.plan.now (tabled (Tabling c.args.nodes.now l c.args.expressions.now k m))) (c.loop-i.invariant.1 l k m rank a) (omega (arith, c.loop-i-test.false, c.loop-i.invariant.0, c.im_count-count.ensures.is)) (omega (arith, c.loop-i-test.false, c.loop-i.invariant.0, c.im_count-count.ensures.is))
