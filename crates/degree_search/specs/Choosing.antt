-- What the choice among candidates asks and gives, and what its answer says.
-- Assumes nothing: these are definitions.
use Rattle.std.specs.Prelude.{ℕ, ◌-◌, ◌<◌, ◌≤◌, ◌≡◌, ◌⊎◌, List, length, get_or, Result}
use Rattle.std.proofs.Math.Option.{none, some}
use Rattle.kinds.specs.Answers.{answer_of}
use Rattle.kinds.specs.declared.refusal.Refused.{Refused}
use Rattle.meaning.specs.Refusals.{Answer, done, refused, ◌then◌}
use Rattle.search_meaning.specs.Search.{keep, finish, Choice, folds, tries}
use Rattle.pool.specs.Trees.{forest}
use Rattle.pool.specs.Tabled.{Tables, tabled}
use Rattle.pool.specs.Ranking.{Tabling}
use Rattle.full_degrees.specs.Table.{World, Fulls}
use Rattle.sets.specs.Members.{members, Good}
use Rattle.degree_rule.specs.Tallies.{Counts, Whole}
use Rattle.degree_rule.specs.Readings.{Reading, found_in}
use Rattle.degree_search.specs.declared.choose.Found.{Found}

pub record Keeps (kept : Reading) (best : List ℕ) (here : Reading) (s : List ℕ) (r : Reading) (best' : List ℕ) : Type 0 where
  pub is : found_in r best' ≡ keep (found_in kept best) (found_in here s)
  pub good : Good best'
  pub one : (r ≡ kept) ⊎ (r ≡ here)

pub record Fresh (n : ℕ) (y : Counts) : Type 0 where
  pub whole : Whole y
  pub visits : y.visits ≡ 0
  pub limit : y.limit ≡ n

pub record Ready (y : Counts) (d : ℕ) (y' : Counts) : Type 0 where
  pub whole : Whole y'
  pub cut : y'.cut ≡ 0
  pub visits : y'.visits ≡ y.visits
  pub limit : y'.limit ≡ y.limit
  pub degree : y'.degree ≡ d

-- WHAT THE CODE'S Result SAYS, with the set that stands beside it
abbrev pub searched_says : Result Found Refused → List ℕ → Answer Choice
searched_says r w = answer_of r then λ x. done (record { set = members w; q = x.q; visits = x.visits })

-- the lent set after an answer: the members, or what it was
abbrev pub SetAfter : Answer Choice → List ℕ → List ℕ → Type 0
SetAfter (done c) w w' = Good w'
SetAfter (refused r o) w w' = w' ≡ w

-- THE ANSWER a, and the lent set after it
pub record Tells (a : Answer Choice) (w w' : List ℕ) (r : Result Found Refused) : Type 0 where
  pub says : searched_says r w' ≡ a
  pub set : SetAfter a w w'

abbrev pub FinishGiven : Reading → List ℕ → List ℕ → List ℕ → ℕ → Result Found Refused → Type 0
FinishGiven kept best w w' v r = Good best → Tells (finish (found_in kept best) v) w w' r

pub record Asks (t : Tables) (rank : ℕ → ℕ) (f es : List ℕ) (last : ℕ) : Type 0 where
  pub world : World t rank
  pub fulls : Fulls t f
  pub some : 1 ≤ length es
  pub each : (k : ℕ) → k < length es → get_or es k 0 < t.expression_count
  pub low : 1 ≤ last
  pub high : last ≤ 17

abbrev pub ChooseAsked : List ℕ → List ℕ → List ℕ → List ℕ → ℕ → ℕ → ℕ → Type 0
ChooseAsked v x f es limit last m = (l : List ℕ) × (n : ℕ) × (rank : (ℕ → ℕ)) × Asks (Tabling v l x n m) rank f es last

-- whatever the number of "vc"
abbrev pub ChooseGiven : List ℕ → List ℕ → List ℕ → List ℕ → List ℕ → List ℕ → ℕ → ℕ → ℕ → Result Found Refused → Type 0
ChooseGiven v x f es w w' limit last m r =
    (l : List ℕ) (n : ℕ) (rank : ℕ → ℕ) → Asks (Tabling v l x n m) rank f es last → (vc : ℕ) →
    Tells (tries (some limit) (forest (tabled (Tabling v l x n m))) (folds vc es) (last - 1) 2 none 0) w w' r
