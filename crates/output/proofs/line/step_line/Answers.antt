-- `output::line::step_line` meets its contract: step, destination, source count, sources, line feed.
-- Assumes nothing.
use native.Mathlib.Omega.{arith}
use Rattle.output.proofs.Lines.{sources-room, line-put}
use Rattle.output.proofs.line.step_line.Goals as goal

pub bounds-out-end : goal.bounds-out-end
bounds-out-end c = omega (arith, sources-room _ _ _ _ _ c.put_sources-end.ensures)

pub returns : goal.returns
returns c = line-put _ _ _ _ _ c.put_byte.ensures c.put_cell.ensures c.put_byte-2.ensures c.put_sources-end.ensures
