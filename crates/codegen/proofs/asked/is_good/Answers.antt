-- `codegen::asked::is_good` meets its contract.
-- Assumes nothing.
use mathlib.Core.Path.{sym, ◌∙◌}
use Rattle.codegen.proofs.Small.{none-asked, bad_kind, good-kind}
use Rattle.codegen.proofs.asked.is_good.Goals as goal

pub returns-then-w-eq-NO_KIND : goal.returns-then-w-eq-NO_KIND
returns-then-w-eq-NO_KIND c = none-asked _ _ _ c.if-w-eq-NO_KIND.true

pub returns-then-not-is_result : goal.returns-then-not-is_result
returns-then-not-is_result c = bad_kind _ _ _ c.if-w-eq-NO_KIND.false (sym c.is_result.ensures ∙ c.if-not-is_result.true)

pub returns : goal.returns
returns c = good-kind _ _ _ c.if-w-eq-NO_KIND.false (sym c.is_result.ensures ∙ c.if-not-is_result.false)
