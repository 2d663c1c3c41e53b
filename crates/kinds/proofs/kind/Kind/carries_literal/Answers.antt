-- `kinds::kind::Kind::carries_literal` meets its contract: a number is told apart, and any other kind is as `takes_i64` says.
-- Assumes nothing.
use native.Mathlib.Omega.{arith}
use mathlib.Core.Path.{◌∙◌}
use borrow.Author.Tests.{ne_eqb}
use Rattle.kinds.specs.Range.{within, true-over}
use Rattle.kinds.specs.Kinds.{carries_literal, takes_i64}
use Rattle.kinds.proofs.kind.Kind.carries_literal.Goals as goal

pub returns-in-20 : goal.returns-in-20
unfolding carries_literal takes_i64 within
returns-in-20 c = true-over carries_literal 0x14 0x14 tt c.args.kind (omega arith)

pub returns-in_default : goal.returns-in_default
unfolding carries_literal
returns-in_default c = c.takes_i64.ensures ∙ simp (ne_eqb _ _ c.in_default.in_default-own.rest.1)
