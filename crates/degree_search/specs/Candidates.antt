-- What the functions that read one candidate ask and give.
-- Assumes nothing: these are definitions.
use Rattle.std.specs.Prelude.{ℕ, ◌<◌, ◌≤◌, max, ◌≡◌, Bool, cond, List, [], length, get_or, Option, Some, None, Ok}
use Rattle.std.proofs.Math.Option.{some}
use Rattle.meaning.specs.Refusals.{Refusal}
use Rattle.search_meaning.specs.Search.{Out, refused, Search, next, Found, found, candidate, folds}
use Rattle.search_meaning.specs.Fold.{ticks, identity, identities}
use Rattle.pool.specs.Trees.{forest}
use Rattle.pool.specs.Tabled.{Tables, tabled}
use Rattle.pool.specs.Ranking.{Tabling}
use Rattle.full_degrees.specs.Table.{World, F}
use Rattle.sets.specs.Members.{members, Good}
use Rattle.degree_rule.specs.Tallies.{Counts, tally_of, Held}
use Rattle.degree_rule.specs.Readings.{Reading, said_of}
use Rattle.degree_rule.specs.Visiting.{B, Holds}

abbrev pub top_in : Option ℕ → ℕ → Option ℕ
top_in (Some n) cut = Some (max n cut)
top_in None cut = None

-- two visits n times were entered, or the limit was passed
pub record Ticked (y : Counts) (n : ℕ) (r : Bool) (y' : Counts) : Type 0 where
  pub same : (f : Search Found) → ticks (some y.limit) n f (tally_of y) ≡ cond r (f (tally_of y')) (refused Refusal.visits (tally_of y').visits)
  pub cut : y'.cut ≡ y.cut
  pub held : Held y y'

-- from a tally y, over all the expressions
module _ (t : Tables) (y : Counts) where
  abbrev pub limit : ℕ
  limit = y.limit

  abbrev pub degree : ℕ
  degree = y.degree

  -- one identity, and several, at the degree limit
  abbrev pub one : ℕ → Found → Search Found
  one e = identity (some limit) (F t) (B t limit degree t.expression_count) degree e

  abbrev pub several : List ℕ → Found → Search Found
  several es = identities (some limit) (F t) (B t limit degree t.expression_count) degree es

-- what is said, and what stands after it
pub record Reads (o : Out Found) (y : Counts) (s' : List ℕ) (y' : Counts) (r : Reading) : Type 0 where
  pub same : said_of r s' y' ≡ o
  pub good : Good s'
  pub held : Held y y'

pub record AsksOne (t : Tables) (rank : ℕ → ℕ) (f s : List ℕ) (y : Counts) (e : ℕ) : Type 0 where
  pub world : World t rank
  pub holds : Holds t f s y y.degree
  pub there : e < t.expression_count

abbrev pub IdentityAsked : List ℕ → List ℕ → List ℕ → List ℕ → Counts → ℕ → Option ℕ → ℕ → Type 0
IdentityAsked v x f s y m q e = (l : List ℕ) × (n : ℕ) × (rank : (ℕ → ℕ)) × AsksOne (Tabling v l x n m) rank f s y e

abbrev pub IdentityGiven : List ℕ → List ℕ → List ℕ → List ℕ → Counts → List ℕ → Counts → ℕ → Option ℕ → ℕ → Reading → Type 0
IdentityGiven v x f s y s' y' m q e r =
    (l : List ℕ) (n : ℕ) (rank : ℕ → ℕ) → AsksOne (Tabling v l x n m) rank f s y e → Reads (next (said_of (Ok q) s y) (one (Tabling v l x n m) y e)) y s' y' r

-- from the empty set, at least one identity, and each is there
pub record AsksAll (t : Tables) (rank : ℕ → ℕ) (f es s : List ℕ) (y : Counts) : Type 0 where
  pub world : World t rank
  pub holds : Holds t f s y y.degree
  pub none : members s ≡ []
  pub some : 1 ≤ length es
  pub each : (k : ℕ) → k < length es → get_or es k 0 < t.expression_count

abbrev pub IdentitiesAsked : List ℕ → List ℕ → List ℕ → List ℕ → List ℕ → Counts → ℕ → Type 0
IdentitiesAsked v x f es s y m = (l : List ℕ) × (n : ℕ) × (rank : (ℕ → ℕ)) × AsksAll (Tabling v l x n m) rank f es s y

abbrev pub IdentitiesGiven : List ℕ → List ℕ → List ℕ → List ℕ → List ℕ → Counts → List ℕ → Counts → ℕ → Reading → Type 0
IdentitiesGiven v x f es s y s' y' m r =
    (l : List ℕ) (n : ℕ) (rank : ℕ → ℕ) → AsksAll (Tabling v l x n m) rank f es s y → Reads (several (Tabling v l x n m) y es (found [] 0) (tally_of y)) y s' y' r

-- THE CANDIDATE, whatever the number of "vc": no degree has been cut yet
abbrev pub CandidateGiven : List ℕ → List ℕ → List ℕ → List ℕ → List ℕ → Counts → List ℕ → Counts → ℕ → Reading → Type 0
CandidateGiven v x f es s y s' y' m r =
    (l : List ℕ) (n : ℕ) (rank : ℕ → ℕ) → AsksAll (Tabling v l x n m) rank f es s y → y.cut ≡ 0 → (vc : ℕ) →
    Reads (candidate (some y.limit) (forest (tabled (Tabling v l x n m))) y.degree (F (Tabling v l x n m)) m (folds vc es) y.visits) y s' y' r
