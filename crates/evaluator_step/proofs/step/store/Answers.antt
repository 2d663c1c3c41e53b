-- `evaluator_step::step::store` meets its contract.
-- Assumes nothing.
use native.Mathlib.Omega.{arith}
use mathlib.Core.Path.{sym, ◌∙◌}
use Rattle.evaluator_cells.specs.Laws.Index.{index_there}
use Rattle.evaluator_step.specs.Laws.Steps.{stored-old, stored-new, stored-over}
use Rattle.evaluator_step.proofs.step.store.Goals as goal

pub find-requires : goal.find-requires
find-requires c = (_, c.requires.chained)

pub offset_bounds-cells-i : goal.offset_bounds-cells-i
offset_bounds-cells-i c = omega (arith, (index_there _ _ _ _ (sym (c.find.ensures _ c.requires.chained) ∙ c.in-Some.is)).0, c.requires.chained.few)

pub bounds-cells-i : goal.bounds-cells-i
bounds-cells-i c = omega (arith, (index_there _ _ _ _ (sym (c.find.ensures _ c.requires.chained) ∙ c.in-Some.is)).0, c.requires.chained.few, c.requires.size)

pub returns-then-cells-lt-CELL_LIMIT : goal.returns-then-cells-lt-CELL_LIMIT
returns-then-cells-lt-CELL_LIMIT c = stored-new _ _ _ _ (c.find.ensures _ c.requires.chained) c.in_default.is c.if-cells-lt-CELL_LIMIT.true c.add.ensures

pub returns-in-Some : goal.returns-in-Some
returns-in-Some c = stored-old _ _ _ _ _ (c.find.ensures _ c.requires.chained) c.in-Some.is

pub returns : goal.returns
returns c = stored-over _ _ _ _ (c.find.ensures _ c.requires.chained) c.in_default.is c.if-cells-lt-CELL_LIMIT.false
