-- `evaluator_cells::given::good_values` meets its contract: section k begins at `at`, which is no further than the words go.
-- Assumes nothing.
use native.Mathlib.Omega.{arith}
use Rattle.evaluator_cells.specs.Laws.Sections.{start_first, start-next, short-bad, past-bad, end_is}
use Rattle.evaluator_cells.proofs.given.good_values.Goals as goal

pub returns-then-n-lt-SECTIONS : goal.returns-then-n-lt-SECTIONS
returns-then-n-lt-SECTIONS c = short-bad _ c.if-n-lt-SECTIONS.true

pub loop-k-init : goal.loop-k-init
loop-k-init c = (omega arith, start_first _, omega arith)

pub offset_bounds-values-k : goal.offset_bounds-values-k
offset_bounds-values-k c = omega arith

pub bounds-values-k : goal.bounds-values-k
bounds-values-k c = omega arith

pub overflow_sub-n : goal.overflow_sub-n
overflow_sub-n c = omega arith

pub returns-then-n-at : goal.returns-then-n-at
returns-then-n-at c = past-bad _ _ _ c.loop-k-test.true c.if-n-lt-SECTIONS.false c.loop-k.invariant.1 c.loop-k.invariant.2 c.if-n-at.true

pub overflow_add-at : goal.overflow_add-at
overflow_add-at c = omega arith

pub loop-k-smaller : goal.loop-k-smaller
loop-k-smaller c = omega arith

pub loop-k-preserved : goal.loop-k-preserved
loop-k-preserved c = (omega arith, start-next _ _ _ c.loop-k.invariant.1, omega arith)

pub returns : goal.returns
returns c = end_is _ _ _ c.loop-k.invariant.0 c.loop-k-test.false c.if-n-lt-SECTIONS.false c.loop-k.invariant.1
