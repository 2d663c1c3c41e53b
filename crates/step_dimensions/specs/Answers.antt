-- WHAT THE ANSWERS SAY, as answers of meaning; and what is lent to the code.
-- Assumes nothing: these are definitions.
use Rattle.std.specs.Prelude.{ℕ, List, Result}
use Rattle.kinds.specs.Answers.{plain_answer_of}
use Rattle.kinds.specs.declared.refusal.Refusal.{Refusal}
use Rattle.kinds.specs.declared.step.Step.{Step}
use Rattle.meaning.specs.Refusals.{Answer}
use Rattle.step_dimensions.specs.StepDimensions.{Given}
use Rattle.step_dimensions.specs.declared.lent.Lent.{Lent}

abbrev pub lent : List ℕ → List ℕ → List ℕ → ℕ → Given
lent dims cm q x = record { record_dims = dims; cm2ns = cm; qs = q; dim_x = x }

abbrev pub given : Lent → Given
given l = lent l.record_dims.now l.cm_2ns.now l.qs.now l.dim_x

abbrev pub sourced_says : Result ℕ Refusal → Answer ℕ
sourced_says r = plain_answer_of r

abbrev pub stepped_says : Result Step Refusal → Answer Step
stepped_says r = plain_answer_of r
