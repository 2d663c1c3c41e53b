-- THE EXPORTED SEARCH: the answer is the one that `degree_search` defines, told as its number, with the set, q and the visits.
-- Assumes nothing: these are definitions.
use Rattle.std.specs.Prelude.{ℕ, ◌≡◌, List, [], set, Result}
use Rattle.meaning.specs.Refusals.{Answer, done, refused, answer_no}
use Rattle.frames.specs.Reading.{reading}
use Rattle.search_meaning.specs.Search.{Choice}
use Rattle.degree_search.specs.Choosing.{searched_says, SetAfter}
use Rattle.degree_search.specs.Searching.{asking, Runs}
use Rattle.degree_search.specs.declared.choose.Found.{Found}
use Rattle.kinds.specs.declared.refusal.Refused.{Refused}
use Rattle.sets.specs.Members.{members}

-- THE NUMBER OF A SEARCH'S ANSWER, which no set changes
abbrev pub searched_no : Result Found Refused → ℕ
searched_no r = answer_no (searched_says r [])

-- q and the visits, written where something was found
abbrev pub choice_told : Answer Choice → List ℕ → List ℕ
choice_told (done c) o = set (set o 0 c.q) 1 c.visits
choice_told (refused k i) o = o

abbrev pub found_told : Result Found Refused → List ℕ → List ℕ
found_told r o = choice_told (searched_says r []) o

-- the set is the members that stand in the lent words; on a refusal they are what they were
abbrev pub set_is : Answer Choice → List ℕ → Type 0
set_is (done c) w = c.set ≡ members w
set_is (refused k i) w = Unit {0}

-- whatever the number of "vc"
abbrev pub SearchNumbered : List ℕ → List ℕ → ℕ → ℕ → ℕ → List ℕ → List ℕ → List ℕ → List ℕ → ℕ → Type 0
SearchNumbered s es b e limit w w' z z' n =
    (vc : ℕ) → (a : Answer Choice) × Runs (reading s) (asking es vc b e limit) a × (n ≡ answer_no a) × SetAfter a w w' × set_is a w' × (z' ≡ choice_told a z)
