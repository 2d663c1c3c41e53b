-- A number looked up in a slice, and what a source that is read from its record has.
-- Assumes nothing.
use Rattle.std.specs.Prelude.{ℕ, ◌≡◌, refl, false, List, Option, Some, None, Result, Ok, Err}
use Rattle.std.proofs.Common.{◌∙◌, ap, arith}
use Rattle.std.specs.Option.{is_some}
use Rattle.std.specs.Result.{result_ok}
use Rattle.kinds.specs.Answers.{plain_answer_of}
use Rattle.kinds.specs.declared.refusal.Refusal.{Refusal}
use Rattle.kinds.specs.declared.reference.Reference.{Reference}
use Rattle.std.proofs.Math.Option.{none}
use Rattle.meaning.specs.Refusals as spec
use Rattle.meaning.specs.Refusals.{Answer, refused}
use Rattle.step_dimensions.specs.Rules.{rule_number, rule_no}
use Rattle.step_dimensions.specs.StepDimensions.{Given, source_dim}
use Rattle.step_dimensions.specs.Laws.Sources.{by-none}
use Rattle.step_dimensions.specs.declared.rule.Rule.{Rule}
use Rattle.step_dimensions.specs.Known.{known}

-- what a source that has none leaves
pub known-as-ok : (r : Result ℕ Refusal) → result_ok r ≡ known (plain_answer_of r)
known-as-ok (Ok d) = refl
known-as-ok (Err w) = refl

pub known-from : (o : Option ℕ) (r : Result ℕ Refusal) (a : Answer ℕ) → o ≡ result_ok r → plain_answer_of r ≡ a → o ≡ known a
known-from o r a e f = e ∙ known-as-ok r ∙ ap known f

-- a kind that has no rule
pub no-rule : (g : Given) (ts : List ℕ) (r : Reference) (o : Option Rule) → rule_number o ≡ rule_no r.kind → is_some o ≡ false → refused spec.Refusal.no_rule none ≡ source_dim g ts r
no-rule g ts r (Some x) e q = absurd (let z : ◌≡◌ {A = ℕ} 0 1 = cc in omega arith)
no-rule g ts r None e q =
    by-none g ts r 0 e (λ z. omega arith) (λ z. omega arith) (λ z. omega arith) (λ z. omega arith) (λ z. omega arith) (λ z. omega arith) (λ z. omega arith)
