-- `output::line::digit` meets its contract.
-- Assumes nothing.
use borrow.Author.Tests.{lt-ltb, le-ltb}
use native.Mathlib.Omega.{arith}
use Rattle.frames.specs.Hexed.{hex_digit}
use Rattle.output.proofs.line.digit.Goals as goal

pub returns-then-v-lt10 : goal.returns-then-v-lt10
unfolding hex_digit
returns-then-v-lt10 c = simp (lt-ltb _ _ c.if-v-lt10.true)

pub returns-else-v-lt10 : goal.returns-else-v-lt10
unfolding hex_digit
returns-else-v-lt10 c = simp (le-ltb _ _ c.if-v-lt10.false) (omega arith)
