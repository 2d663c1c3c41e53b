-- `evaluator_cells::given::section_start` meets its contract: section i begins at `at`.
-- Assumes nothing.
use native.Mathlib.Omega.{arith}
use Rattle.evaluator_cells.specs.Laws.Sections.{start_first, start-next, start-end, header_there, section-there}
use Rattle.evaluator_cells.proofs.given.section_start.Goals as goal

pub loop-i-init : goal.loop-i-init
loop-i-init c = (omega arith, start_first _)

pub offset_bounds-values-i : goal.offset_bounds-values-i
offset_bounds-values-i c = omega arith

pub bounds-values-i : goal.bounds-values-i
bounds-values-i c = omega (arith, header_there _ c.requires.good, c.loop-i-test.true, c.requires.in_header)

pub overflow_add-at : goal.overflow_add-at
overflow_add-at c = omega (arith, section-there _ c.requires.good c.loop-i.i (omega (arith, c.loop-i-test.true, c.requires.in_header)), c.loop-i.invariant.1, c.well_formed)

pub loop-i-smaller : goal.loop-i-smaller
loop-i-smaller c = omega arith

pub loop-i-preserved : goal.loop-i-preserved
loop-i-preserved c = (omega arith, start-next _ _ _ c.loop-i.invariant.1)

pub returns : goal.returns
returns c = start-end _ _ _ _ c.loop-i.invariant.1 c.loop-i.invariant.0 c.loop-i-test.false
