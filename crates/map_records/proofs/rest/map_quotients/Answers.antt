-- `map_records::rest::map_quotients` meets its contract: the first i pieces are mapped. Assumes nothing.
use mathlib.Core.Path.{refl, sym, ◌∙◌}
use native.Mathlib.Omega.{arith}
use Rattle.map_records.specs.Mapping.{quotients}
use Rattle.map_records.specs.Sizes.{quotients-fit}
use Rattle.plans.specs.Passed.{counts-agree}
use Rattle.map_records.specs.Agreed.{few-cms}
use Rattle.map_records.proofs.Parts.{held_at, quotient-room, quotient-next}
use Rattle.map_records.proofs.rest.map_quotients.Goals as goal

pub q_deg_of-count-requires : goal.q_deg_of-count-requires
q_deg_of-count-requires c = c.requires.0.whole.0

pub cm1_of-requires : goal.cm1_of-requires
cm1_of-requires c = c.requires.0.whole.0

pub cm2_of-requires : goal.cm2_of-requires
cm2_of-requires c = c.requires.0.whole.0

pub overflow_add-at : goal.overflow_add-at
overflow_add-at c = omega (arith, c.cm1_of.ensures.low, c.cm2_of.ensures.low)

pub cm3_of-requires : goal.cm3_of-requires
cm3_of-requires c = c.requires.0.whole.0

pub overflow_add-at-2 : goal.overflow_add-at-2
overflow_add-at-2 c = omega (arith, c.cm1_of.ensures.low, c.cm2_of.ensures.low, c.cm3_of.ensures.low)

pub loop-i-init : goal.loop-i-init
loop-i-init c = (omega arith, λ p a. held_at (quotients c.args.plan.now p) a.holds refl (omega arith))

pub overflow_mul-i : goal.overflow_mul-i
overflow_mul-i c = omega (arith, quotient-room c.requires.0 c.requires.1.1 c.loop-i.i (omega (arith, c.loop-i-test.true, c.q_deg_of-count.ensures.is)) (c.loop-i.invariant.1 c.requires.1.0 c.requires.1.1))

pub overflow_add-before : goal.overflow_add-before
overflow_add-before c = omega (arith, quotient-room c.requires.0 c.requires.1.1 c.loop-i.i (omega (arith, c.loop-i-test.true, c.q_deg_of-count.ensures.is)) (c.loop-i.invariant.1 c.requires.1.0 c.requires.1.1))

pub add_pair-requires : goal.add_pair-requires
add_pair-requires c = (quotient-room c.requires.0 c.requires.1.1 c.loop-i.i (omega (arith, c.loop-i-test.true, c.q_deg_of-count.ensures.is)) (c.loop-i.invariant.1 c.requires.1.0 c.requires.1.1), omega arith)

pub overflow_add-cmdims : goal.overflow_add-cmdims
overflow_add-cmdims c = omega (arith, few-cms c.args.plan.now c.requires.0, (counts-agree c.args.plan.now c.requires.0.agree).fourth, c.loop-i-test.true, c.q_deg_of-count.ensures.is, c.cm1_of.ensures.is, c.cm2_of.ensures.is, c.cm3_of.ensures.is)

pub offset_bounds-cmdims-at : goal.offset_bounds-cmdims-at
offset_bounds-cmdims-at c = omega (arith, few-cms c.args.plan.now c.requires.0, (counts-agree c.args.plan.now c.requires.0.agree).fourth, c.loop-i-test.true, c.q_deg_of-count.ensures.is, c.cm1_of.ensures.is, c.cm2_of.ensures.is, c.cm3_of.ensures.is)

pub bounds-cmdims-at : goal.bounds-cmdims-at
bounds-cmdims-at c = omega (arith, (c.loop-i.invariant.1 c.requires.1.0 c.requires.1.1).cm_size, few-cms c.args.plan.now c.requires.0, (counts-agree c.args.plan.now c.requires.0.agree).fourth, c.loop-i-test.true, c.q_deg_of-count.ensures.is, c.cm1_of.ensures.is, c.cm2_of.ensures.is, c.cm3_of.ensures.is)

pub loop-i-smaller : goal.loop-i-smaller
loop-i-smaller c = omega (arith, c.loop-i-test.true)

pub loop-i-preserved : goal.loop-i-preserved
loop-i-preserved c = (omega (arith, c.loop-i-test.true, c.q_deg_of-count.ensures.is), λ p a. quotient-next c.requires.0 a c.loop-i.i (omega (arith, c.loop-i-test.true, c.q_deg_of-count.ensures.is)) (c.loop-i.invariant.1 p a) (omega (arith, c.cm1_of.ensures.is, c.cm2_of.ensures.is, c.cm3_of.ensures.is)) c.add_pair.ensures.0 c.add_pair.ensures.1)

pub overflow_mul-result : goal.overflow_mul-result
overflow_mul-result c = omega (arith, c.q_deg_of-count.ensures.low)

pub overflow_add-result : goal.overflow_add-result
overflow_add-result c = let h = (c.loop-i.invariant.1 c.requires.1.0 c.requires.1.1) in let f = quotients-fit c.args.plan.now c.requires.1.0 c.requires.0.fits c.loop-i.i c.loop-i.invariant.0 in omega (arith, h.count, f, c.loop-i-test.false, c.loop-i.invariant.0, c.q_deg_of-count.ensures.is)

pub shape_of-cmdims : goal.shape_of-cmdims
shape_of-cmdims c = (c.loop-i.invariant.1 c.requires.1.0 c.requires.1.1).cm_size ∙ sym c.requires.1.1.holds.cm_size

pub returns : goal.returns
returns c = λ p a. held_at (quotients c.args.plan.now p) (c.loop-i.invariant.1 p a) (omega (arith, c.loop-i-test.false, c.loop-i.invariant.0, c.q_deg_of-count.ensures.is)) (omega (arith, c.loop-i-test.false, c.loop-i.invariant.0, c.q_deg_of-count.ensures.is))
