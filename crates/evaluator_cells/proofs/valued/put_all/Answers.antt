-- `evaluator_cells::valued::put_all` meets its contract: the cells before j stand in the answer.
-- Assumes nothing.
use mathlib.Core.Path.{◌∙◌, refl}
use native.Mathlib.Omega.{arith}
use Rattle.evaluator_cells.specs.Laws.Valued.{keyed_begin, keyed_more, keyed_end}
use Rattle.evaluator_cells.proofs.valued.put_all.Goals as goal

pub loop-j-init : goal.loop-j-init
loop-j-init c = (omega arith, refl, keyed_begin _ _ _)

pub overflow_mul-j : goal.overflow_mul-j
overflow_mul-j c = omega (arith, c.requires.few, c.loop-j-test.true)

pub offset_bounds-cells-j : goal.offset_bounds-cells-j
offset_bounds-cells-j c = omega (arith, c.requires.few, c.loop-j-test.true)

pub bounds-cells-j : goal.bounds-cells-j
bounds-cells-j c = omega (arith, c.requires.few, c.loop-j-test.true)

pub offset_bounds-cells-j-in-loop-j : goal.offset_bounds-cells-j-in-loop-j
offset_bounds-cells-j-in-loop-j c = omega (arith, c.requires.few, c.loop-j-test.true)

pub bounds-cells-j-in-loop-j : goal.bounds-cells-j-in-loop-j
bounds-cells-j-in-loop-j c = omega (arith, c.requires.few, c.loop-j-test.true)

pub put_keyed-requires : goal.put_keyed-requires
put_keyed-requires c = record { fits = omega (arith, c.requires.fits, c.loop-j-test.true, c.loop-j.invariant.1); small = c.requires.small _ c.loop-j-test.true }

pub loop-j-smaller : goal.loop-j-smaller
loop-j-smaller c = omega (arith, c.loop-j-test.true)

pub loop-j-preserved : goal.loop-j-preserved
loop-j-preserved c = (omega (arith, c.loop-j-test.true), c.put_keyed.auto.out ∙ c.loop-j.invariant.1, keyed_more _ _ _ _ c.loop-j.invariant.2 c.put_keyed.ensures)

pub shape_of-out : goal.shape_of-out
shape_of-out c = c.loop-j.invariant.1

pub returns : goal.returns
returns c = keyed_end _ _ _ _ _ c.loop-j.invariant.2 c.loop-j.invariant.0 c.loop-j-test.false
