-- `output::line::put_source` meets its contract: the cell, and for a number its literal after it.
-- Assumes nothing.
use Rattle.output.proofs.Lines.{source-plain, source-number}
use Rattle.output.proofs.line.put_source.Goals as goal

pub returns-then-r-eq-NUMBER : goal.returns-then-r-eq-NUMBER
returns-then-r-eq-NUMBER c = source-number _ _ _ _ _ c.put_cell.ensures c.if-r-eq-NUMBER.true _ c.literal_of.ensures c.put_literal.ensures

pub returns : goal.returns
returns c = source-plain _ _ _ _ _ c.put_cell.ensures c.if-r-eq-NUMBER.false
