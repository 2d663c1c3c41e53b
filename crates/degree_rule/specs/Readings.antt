-- What a reading says, with the set and the tally that stand beside it.
-- Assumes nothing: these are definitions.
use Rattle.std.specs.Prelude.{ℕ, ◌≡◌, Bool, true, false, cond, List, ◌⊎◌, eqb, ltb, Option, Some, None, Result, Ok, Err}
use Rattle.std.proofs.Math.Option.{none}
use Rattle.kinds.specs.Answers as answers
use Rattle.kinds.specs.declared.refusal.Refusal as code
use Rattle.kinds.specs.declared.refusal.Refusal.TheVariants as refusal
use Rattle.meaning.specs.Refusals.{Refusal}
use Rattle.search_meaning.specs.Search.{Out, done, refused, next, Found, found, set_of, Reads, visit, better, settled}
use Rattle.sets.specs.Members.{members, Good}
use Rattle.degree_rule.specs.Tallies.{Counts, tally_of, limit_in, Held}
use Rattle.degree_rule.specs.declared.reading.Stop.{Stop}
use Rattle.degree_rule.specs.declared.reading.Stop.TheVariants.{BadKind, OverLimit}

-- a degree, none, or a refusal
abbrev pub Reading : Type 0
Reading = Result (Option ℕ) Stop

-- the refusal of the code, and of document 01
abbrev pub refusal_in : Stop → code.Refusal
refusal_in BadKind = refusal.SearchKind
refusal_in OverLimit = refusal.Visits

abbrev pub stop_of : Stop → Refusal
stop_of e = answers.refusal_of (refusal_in e)

-- a reading as a number: a degree up to 17 stands for itself
abbrev pub reading_of : ℕ → Reading
reading_of c = cond (ltb c 18) (Ok (Some c)) (cond (eqb c 18) (Ok None) (cond (eqb c 19) (Err BadKind) (Err OverLimit)))

abbrev pub found_of : Option ℕ → List ℕ → Found
found_of (Some n) s = found (members s) n
found_of None s = none

-- the same of a reading, where nothing is found if it is refused
abbrev pub found_in : Reading → List ℕ → Found
found_in (Ok o) s = found_of o s
found_in (Err e) s = none

-- WHAT A READING SAYS
abbrev pub said_of : Reading → List ℕ → Counts → Out Found
said_of (Ok o) s t = done (found_of o s) (tally_of t)
said_of (Err e) s t = refused (stop_of e) (tally_of t).visits

abbrev pub degree_of : Option ℕ → ℕ
degree_of (Some n) = n
degree_of None = 0

-- the degree, where there is one
abbrev pub degree_at : Reading → Option ℕ
degree_at (Ok o) = o
degree_at (Err e) = None

abbrev pub degree_in : Reading → ℕ
degree_in (Ok o) = degree_of o
degree_in (Err e) = 0

abbrev pub is_degree : Reading → Bool
is_degree (Ok (Some n)) = true
is_degree (Ok None) = false
is_degree (Err e) = false

abbrev pub refused_in : Reading → Bool
refused_in (Ok o) = false
refused_in (Err e) = true

abbrev pub settled_in : Reading → List ℕ → List ℕ → Bool
settled_in kept best before = settled (found_in kept best) (members before)

-- after a first that gave no degree, whatever the second is
pub record Passed (a : Reading) (t : Counts) (r : Reading) (t' : Counts) : Type 0 where
  pub same : is_degree a ≡ false → (f : Reads) (m : ℕ) (s : List ℕ) → said_of r s t' ≡ next (said_of a s t) (λ x. visit (limit_in t) f (set_of x) m)
  pub none : is_degree a ≡ false → is_degree r ≡ false
  pub held : Held t t'

pub record Betters (kept : Reading) (best : List ℕ) (here : Reading) (s : List ℕ) (r : Reading) (best' : List ℕ) : Type 0 where
  pub is : found_in r best' ≡ better (found_in kept best) (found_in here s)
  pub good : Good best'
  pub one : (r ≡ kept) ⊎ (r ≡ here)
