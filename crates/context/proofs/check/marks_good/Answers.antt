-- `context::check::marks_good` meets its contract: the test of each mark is one of `all`.
-- Assumes nothing.
use mathlib.Core.Path.{refl}
use Rattle.std.proofs.Common.{ℕ, rules, tests}
use Rattle.std.proofs.lemmas.Iterator.{YieldsList-from_range, cases_from_all}
use Rattle.context.specs.Context.{cells, mark_in, Mark}
use Rattle.context.proofs.Tells.{each_so}
use Rattle.context.proofs.check.marks_good.Goals as goal

pub returns : goal.returns
returns c =
    let P = λ (i : ℕ). Mark (mark_in c.args.context.now i) i c.args.m in
    each_so P cells _ (cases_from_all _ _ _ P (λ i. P i → ⊥) c.all.ensures.ran (YieldsList-from_range 0 cells cells refl refl) (λ x q k. search (rules, tests)) (λ x q k. search (rules, tests)))
