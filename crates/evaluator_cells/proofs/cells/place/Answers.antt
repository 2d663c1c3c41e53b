-- `evaluator_cells::cells::place` meets its contract.
-- Assumes nothing.
use borrow.Author.Tests.{eq-eqb, ne_eqb}
use Rattle.evaluator_cells.specs.Cells.{place_no}
use Rattle.evaluator_cells.proofs.cells.place.Goals as goal

pub returns-then-r-eq-TMP : goal.returns-then-r-eq-TMP
unfolding place_no
returns-then-r-eq-TMP c = rw (eq-eqb _ _ c.if-r-eq-TMP.true) c.key.ensures

pub returns : goal.returns
unfolding place_no
returns c = rw (ne_eqb _ _ c.if-r-eq-TMP.false) c.key-2.ensures
