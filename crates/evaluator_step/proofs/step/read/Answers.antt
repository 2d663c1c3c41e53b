-- `evaluator_step::step::read` meets its contract.
-- Assumes nothing.
use native.Mathlib.Omega.{arith}
use mathlib.Core.Path.{sym, ◌∙◌}
use Rattle.evaluator_cells.specs.Laws.Index.{index_there}
use Rattle.evaluator_step.specs.Laws.Steps.{read_number, read-written, read-given}
use Rattle.evaluator_step.proofs.step.read.Goals as goal

pub number_at-requires : goal.number_at-requires
number_at-requires c = record { size = c.requires.1.size }

pub returns-then-r-eq-NUMBER : goal.returns-then-r-eq-NUMBER
returns-then-r-eq-NUMBER c = read_number _ _ _ _ c.args.r _ c.if-r-eq-NUMBER.true c.number_at.ensures

pub find-requires : goal.find-requires
find-requires c = (_, c.requires.2.chained)

pub offset_bounds-cells-i : goal.offset_bounds-cells-i
offset_bounds-cells-i c = let k = c.requires.2 in omega (arith, (index_there _ _ _ _ (sym (c.find.ensures _ k.chained) ∙ c.in-Some.is)).0, k.chained.few)

pub bounds-cells-i : goal.bounds-cells-i
bounds-cells-i c = let k = c.requires.2 in omega (arith, (index_there _ _ _ _ (sym (c.find.ensures _ k.chained) ∙ c.in-Some.is)).0, k.chained.few, k.size)

pub before-requires : goal.before-requires
before-requires c = record { lends = c.requires.0; in_ids = omega (arith, c.well_formed); in_byte = omega (arith, c.well_formed) }

pub returns-in-Some : goal.returns-in-Some
returns-in-Some c = read-written _ _ _ _ c.args.r _ _ _ c.if-r-eq-NUMBER.false c.place.ensures (c.find.ensures _ c.requires.2.chained) c.in-Some.is

pub returns-in-None : goal.returns-in-None
returns-in-None c = read-given _ _ _ _ c.args.r _ _ c.before-in-None.result c.if-r-eq-NUMBER.false c.place.ensures (c.find.ensures _ c.requires.2.chained) c.in-None.is c.before-in-None.ensures
