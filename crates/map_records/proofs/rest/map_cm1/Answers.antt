-- `map_records::rest::map_cm1` meets its contract: the first i columns are mapped. Assumes nothing.
use mathlib.Core.Path.{sym, ◌∙◌}
use native.Mathlib.Omega.{arith}
use Rattle.map_records.specs.Mapping.{cm1s}
use Rattle.map_records.proofs.Parts.{pair-next, held_at, cm1s-none, cm1s-next}
use Rattle.map_records.proofs.rest.map_cm1.Goals as goal

pub cm1_of-count-requires : goal.cm1_of-count-requires
cm1_of-count-requires c = c.requires.0.whole.0

pub loop-i-init : goal.loop-i-init
loop-i-init c = (omega arith, λ p h. cm1s-none c.args.plan.now p h)

pub overflow_mul-i : goal.overflow_mul-i
overflow_mul-i c = omega (arith, c.requires.0.fits, c.cm1_of-count.ensures.is, c.cm1_of-count.ensures.low, c.loop-i-test.true)

pub add_pair-requires : goal.add_pair-requires
add_pair-requires c = (omega (arith, c.requires.0.fits, c.cm1_of-count.ensures.is, c.loop-i-test.true), omega arith)

pub offset_bounds-cmdims-i : goal.offset_bounds-cmdims-i
offset_bounds-cmdims-i c = omega (arith, c.requires.0.fits, c.cm1_of-count.ensures.is, c.cm1_of-count.ensures.low, c.loop-i-test.true)

pub bounds-cmdims-i : goal.bounds-cmdims-i
bounds-cmdims-i c = let h = c.loop-i.invariant.1 c.requires.1.0 c.requires.1.1 in omega (arith, h.cm_size, c.requires.0.fits, c.cm1_of-count.ensures.is, c.loop-i-test.true)

pub loop-i-smaller : goal.loop-i-smaller
loop-i-smaller c = omega (arith, c.loop-i-test.true)

pub loop-i-preserved : goal.loop-i-preserved
loop-i-preserved c = (omega (arith, c.loop-i-test.true, c.cm1_of-count.ensures.is), λ p h. pair-next (c.loop-i.invariant.1 p h) 0 c.loop-i.i 1 (omega (arith, c.requires.0.fits, c.cm1_of-count.ensures.is, c.loop-i-test.true)) c.add_pair.ensures.0 c.add_pair.ensures.1 (omega arith) (cm1s-next _ p c.loop-i.i))

pub overflow_mul-result : goal.overflow_mul-result
overflow_mul-result c = omega (arith, c.cm1_of-count.ensures.low)

pub shape_of-cmdims : goal.shape_of-cmdims
shape_of-cmdims c = (c.loop-i.invariant.1 c.requires.1.0 c.requires.1.1).cm_size ∙ sym c.requires.1.1.cm_size

pub returns : goal.returns
returns c = λ p h. held_at (cm1s c.args.plan.now p) (c.loop-i.invariant.1 p h) (omega (arith, c.loop-i-test.false, c.loop-i.invariant.0, c.cm1_of-count.ensures.is)) (omega (arith, c.loop-i-test.false, c.loop-i.invariant.0, c.cm1_of-count.ensures.is))
