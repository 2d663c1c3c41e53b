-- What is counted, as it stands in four numbers: the largest degree cut, the visits, the limit, the degree limit d.
-- Assumes nothing: these are definitions.
use Rattle.std.specs.Prelude.{ℕ, ◌<◌, max, ◌≡◌, Bool, cond, ltb}
use Rattle.std.proofs.Math.Option.{Option, some}
use Rattle.search_meaning.specs.Search.{Tally, counted}
use Rattle.degree_rule.specs.declared.tally.Tally as code

abbrev pub Counts : Type 0
Counts = code.Tally

unfoldable pub tally_of : Counts → Tally
tally_of t = record { cut = t.cut; visits = t.visits }

abbrev pub limit_in : Counts → Option ℕ
limit_in t = some t.limit

-- numbers of 64 bits
pub record Whole (t : Counts) : Type 0 where
  pub fits : t.limit < 0x10000000000000000

-- both limits stay
pub record Held (t t' : Counts) : Type 0 where
  pub whole : Whole t'
  pub limit : t'.limit ≡ t.limit
  pub degree : t'.degree ≡ t.degree

-- a visit is entered, and counted, where the limit allows it
pub record Entered (t : Counts) (r : Bool) (t' : Counts) : Type 0 where
  pub may : r ≡ ltb t.visits t.limit
  pub is : tally_of t' ≡ cond r (counted (tally_of t)) (tally_of t)
  pub held : Held t t'

pub record Cuts (t : Counts) (n : ℕ) (t' : Counts) : Type 0 where
  pub is : tally_of t' ≡ record { cut = max (tally_of t).cut n; visits = (tally_of t).visits }
  pub held : Held t t'
