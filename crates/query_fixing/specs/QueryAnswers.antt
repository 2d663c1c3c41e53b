-- WHAT fix_query_code GIVES: its answer and the lent lists after it are those of the definitions.
-- Assumes nothing: these are definitions.
use Rattle.std.specs.Prelude.{ℕ, ◌≡◌, List, Result, Ok, Err}
use Rattle.kinds.specs.Answers.{plain_answer_of}
use Rattle.kinds.specs.declared.refusal.Refusal.{Refusal}
use Rattle.kinds.specs.declared.refusal.Refusal.TheVariants as code
use Rattle.meaning.specs.Refusals.{Answer}
use Rattle.lent_lists.specs.Verdicts.{Verdict, fine, malformed, not_there, no_rule, full}
use Rattle.query_fixing.specs.QueryCode.{query_verdict, queried_after}

-- WHAT fix_query_code's ANSWER SAYS: done, or document 01's refusal
abbrev pub queried_says : Result Unit Refusal → Answer (Unit {0})
queried_says r = plain_answer_of r

-- the answer of a verdict; this walk never meets 9
abbrev pub Says : Verdict → Result Unit Refusal → Type 0
Says fine r = r ≡ Ok tt
Says malformed r = r ≡ Err code.Malformed
Says not_there r = r ≡ Err code.NotThere
Says no_rule r = r ≡ Err code.NoRule
Says full r = ⊥

pub record QueryCodeIs (trees first i last first' i' last' : List ℕ) (r : Result Unit Refusal) : Type 0 where
  pub answer : Says (query_verdict trees first i last) r
  pub first_is : first' ≡ queried_after trees first i last first
  pub i_is : i' ≡ queried_after trees first i last i
  pub last_is : last' ≡ queried_after trees first i last last
