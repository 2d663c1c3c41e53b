-- `kinds::kind::Kind::is_result` meets its contract: a number is told apart, and any other kind is as `is_reference` says.
-- Assumes nothing.
use native.Mathlib.Omega.{arith}
use mathlib.Core.Path.{◌∙◌}
use borrow.Author.Tests.{ne_eqb}
use Rattle.kinds.specs.Range.{within, false-over}
use Rattle.kinds.specs.Kinds.{is_result, is_reference, is_leaf}
use Rattle.kinds.proofs.kind.Kind.is_result.Goals as goal

pub returns-in-20 : goal.returns-in-20
unfolding is_result is_reference is_leaf within
returns-in-20 c = false-over is_result 0x14 0x14 tt c.args.kind (omega arith)

pub returns-in_default : goal.returns-in_default
unfolding is_result
returns-in_default c = c.is_reference.ensures ∙ simp (ne_eqb _ _ c.in_default.in_default-own.rest.1)
