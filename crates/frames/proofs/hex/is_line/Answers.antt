-- `frames::hex::is_line` meets its contract.
-- Assumes nothing.
use borrow.Author.Tests.{tests}
use native.Mathlib.Omega.{arith}
use Rattle.frames.specs.Lines.{line_ok}
use Rattle.frames.proofs.hex.is_line.Goals as goal

pub returns-then-line-eq0 : goal.returns-then-line-eq0
unfolding line_ok
returns-then-line-eq0 c = grind (arith, tests)

pub returns-else-line-eq0 : goal.returns-else-line-eq0
unfolding line_ok
returns-else-line-eq0 c = grind (arith, tests)
