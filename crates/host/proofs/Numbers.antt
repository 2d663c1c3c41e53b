-- The exported search: its number, q and visits, and set are those of what tells it.
-- Assumes nothing.
use Prim.Native.Nat.{ℕ}
use Rattle.std.specs.Prelude.{Result, Ok, Err}
use Rattle.kinds.specs.Answers.{answer_of}
use Rattle.kinds.specs.declared.refusal.Refused.{Refused}
use mathlib.Core.Path.{◌≡◌, refl, ◌∙◌, ap, subst}
use mathlib.Core.List.{List}
use Rattle.meaning.specs.Refusals.{Answer, answer_no}
use Rattle.search_meaning.specs.Search.{Choice}
use Rattle.degree_search.specs.Choosing.{searched_says}
use Rattle.degree_search.specs.Searching.{SearchGiven}
use Rattle.degree_search.specs.declared.choose.Found.{Found}
use Rattle.host.specs.Searches.{searched_no, choice_told, found_told, set_is, SearchNumbered}

number_of : (r : Result Found Refused) → answer_no (answer_of r) ≡ searched_no r
number_of (Ok f) = refl
number_of (Err r) = refl

-- the set changes nothing of what is told beside it
number_same : (r : Result Found Refused) (w : List ℕ) → searched_no r ≡ answer_no (searched_says r w)
number_same (Ok f) w = refl
number_same (Err r) w = refl

told_same : (r : Result Found Refused) (w z : List ℕ) → found_told r z ≡ choice_told (searched_says r w) z
told_same (Ok f) w z = refl
told_same (Err r) w z = refl

set_told : (r : Result Found Refused) (w : List ℕ) → set_is (searched_says r w) w
set_told (Ok f) w = refl
set_told (Err r) w = tt

pub search-numbered :
    (s es : List ℕ) (b e limit : ℕ) {w w' z z' : List ℕ} {n : ℕ} {r : Result Found Refused} → SearchGiven s es w w' b e limit r → n ≡ answer_no (answer_of r) → z' ≡ found_told r z
    → SearchNumbered s es b e limit w w' z z' n
search-numbered s es b e limit {w' = w'} {z = z} {r = r} g q h vc =
    let x = g vc in (
      x.answer,
      x.runs,
      q ∙ number_of r ∙ number_same r w' ∙ ap answer_no x.says,
      x.set,
      subst (λ (a : Answer Choice). set_is a w') x.says (set_told r w'),
      h ∙ told_same r w' z ∙ ap (λ (a : Answer Choice). choice_told a z) x.says,
    )
