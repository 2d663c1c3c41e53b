-- WHAT THE ENTRY POINTS GIVE: the answer and the lent lists after it are those of the definitions.
-- Assumes nothing: these are definitions.
use Rattle.std.specs.Prelude.{ℕ, ◌≡◌, List, Result, Ok, Err}
use Rattle.kinds.specs.Answers.{plain_answer_of}
use Rattle.kinds.specs.declared.refusal.Refusal.{Refusal}
use Rattle.kinds.specs.declared.refusal.Refusal.TheVariants as code
use Rattle.meaning.specs.Refusals.{Answer}
use Rattle.lent_lists.specs.Verdicts.{Verdict, fine, malformed, not_there, no_rule, full}
use Rattle.fixing.specs.ProverCode.{temporaries, prover_verdict, list_after}

-- WHAT fix_prover_code's ANSWER SAYS: the counter after it, or document 01's refusal
abbrev pub fixed_says : Result ℕ Refusal → Answer ℕ
fixed_says r = plain_answer_of r

-- the answer of a verdict and a counter
abbrev pub fixed_of : Verdict → ℕ → Result ℕ Refusal
fixed_of fine n = Ok n
fixed_of malformed n = Err code.Malformed
fixed_of not_there n = Err code.NotThere
fixed_of no_rule n = Err code.NoRule
fixed_of full n = Err code.Full

pub record ProverCodeIs (rules cms : List ℕ) (counter : ℕ) (first i last first' i' last' : List ℕ) (r : Result ℕ Refusal) : Type 0 where
  pub answer : r ≡ fixed_of (prover_verdict rules cms counter first i last) (temporaries rules counter first i last).next
  pub first_is : first' ≡ list_after rules cms counter first i last first
  pub i_is : i' ≡ list_after rules cms counter first i last i
  pub last_is : last' ≡ list_after rules cms counter first i last last
