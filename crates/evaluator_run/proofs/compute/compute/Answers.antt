-- `evaluator_run::compute::compute` meets its contract: each way through the code is one law of specs/Laws/Computes.antt.
-- Assumes nothing.
use native.Mathlib.Omega.{arith}
use mathlib.Core.Path.{refl, ap, ◌∙◌}
use Rattle.std.specs.Prelude.{Err}
use Rattle.evaluator_run.specs.Laws.Runs.{told-no-rule, told_over, told-cells}
use Rattle.evaluator_run.specs.Laws.Computes.{kept-zeros, answer-no-rule, answer-over, answer-over-refused, answer-asks, answer-cells}
use Rattle.evaluator_run.proofs.compute.compute.Goals as goal

pub run_list-requires : goal.run_list-requires
run_list-requires c = (c.requires.lends, c.requires.reduced, kept-zeros _ 65536 16384 16384 16384 refl refl refl refl)

pub has_rules-requires : goal.has_rules-requires
has_rules-requires c = c.requires.lends

pub returns-then-has_rules : goal.returns-then-has_rules
returns-then-has_rules c = answer-over _ _ _ _ c.requires (λ i. omega (arith, c.type_inv.list i)) _ (kept-zeros _ 65536 16384 16384 16384 refl refl refl refl) refl _ (told_over c.run_list.result _ _ c.run_list.ensures (c.in-Err-Over.is ∙ ap Err c.in-Err-Over.field-0-is)) _ c.has_rules.ensures c.if-has_rules.true

pub put_cells-requires : goal.put_cells-requires
put_cells-requires c = answer-asks _ _ _ _ c.requires (λ i. omega (arith, c.type_inv.list i)) _ (kept-zeros _ 65536 16384 16384 16384 refl refl refl refl) refl _ _ _ _ _ (told-cells c.run_list.result _ _ c.run_list.ensures _ c.in-Ok.is)

pub returns-in-Err-NoRule : goal.returns-in-Err-NoRule
returns-in-Err-NoRule c = answer-no-rule _ _ _ _ c.requires (λ i. omega (arith, c.type_inv.list i)) _ (kept-zeros _ 65536 16384 16384 16384 refl refl refl refl) refl _ (told-no-rule c.run_list.result _ _ c.run_list.ensures (c.in-Err-NoRule.is ∙ ap Err c.in-Err-NoRule.field-0-is))

pub returns-else-has_rules : goal.returns-else-has_rules
returns-else-has_rules c = answer-over-refused _ _ _ _ c.requires (λ i. omega (arith, c.type_inv.list i)) _ (kept-zeros _ 65536 16384 16384 16384 refl refl refl refl) refl _ (told_over c.run_list.result _ _ c.run_list.ensures (c.in-Err-Over.is ∙ ap Err c.in-Err-Over.field-0-is)) _ c.has_rules.ensures c.if-has_rules.false

pub returns-in-Ok : goal.returns-in-Ok
returns-in-Ok c = answer-cells _ _ _ _ c.requires (λ i. omega (arith, c.type_inv.list i)) _ (kept-zeros _ 65536 16384 16384 16384 refl refl refl refl) refl _ _ _ _ _ (told-cells c.run_list.result _ _ c.run_list.ensures _ c.in-Ok.is) _ c.put_cells.ensures
