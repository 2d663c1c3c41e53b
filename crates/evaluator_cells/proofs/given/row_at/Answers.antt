-- `evaluator_cells::given::row_at` meets its contract.
-- Assumes nothing.
use borrow.Author.Tests.{lt-ltb, le-ltb}
use Rattle.evaluator_cells.specs.Given.{row_at}
use Rattle.evaluator_cells.proofs.given.row_at.Goals as goal

pub returns-then-row-lt-ROWS : goal.returns-then-row-lt-ROWS
unfolding row_at
returns-then-row-lt-ROWS c = rw (lt-ltb _ _ c.if-row-lt-ROWS.true) c.word_at.ensures

pub returns : goal.returns
unfolding row_at
returns c = rw (le-ltb _ _ c.if-row-lt-ROWS.false)
