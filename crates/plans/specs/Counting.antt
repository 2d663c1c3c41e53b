-- COUNTING THE TEMPORARY COLUMNS: a table of a byte for each expression number below its size, 1 where the expression is an intermediate or has a column by now.
-- Assumes nothing: these are definitions.
use Rattle.std.specs.Prelude.{ℕ, ◌*◌, ◌≤◌, ◌<◌, ◌≡◌, Bool, false, ◌||◌, cond, List, [], length, get_or, set, eqb}
use Rattle.plans.specs.Plan.{number_limit, pu_count, im_count, im_of, Whole}
use Rattle.plans.specs.Columns.{among, is_im, lookups}

-- THE TABLE TELLS of each expression number whether it is so
pub record Tells (size : ℕ) (so : ℕ → Bool) (table : List ℕ) : Type 0 where
  pub full : length table ≡ size
  pub cell : (e : ℕ) → e < size → get_or table e 0 ≡ cond (so e) 1 0

-- no more columns for these expressions: the intermediates, and those that have one
abbrev pub known : List ℕ → List ℕ → ℕ → Bool
known b cs e = is_im b e || among e cs

-- one expression asked: how many columns it adds, and the table then
unfoldable pub added : List ℕ → ℕ → ℕ
added table e = cond (eqb (get_or table e 0) 1) 0 1

unfoldable pub marked : List ℕ → ℕ → List ℕ
marked table e = cond (eqb (get_or table e 0) 1) table (set table e 1)

pub record Asked (before : List ℕ) (e r : ℕ) (after : List ℕ) : Type 0 where
  pub adds : r ≡ added before e
  pub marks : after ≡ marked before e

-- a count of columns, and the table that tells them
pub record Counted (size : ℕ) (b cs : List ℕ) (n limit : ℕ) (table : List ℕ) : Type 0 where
  pub tells : Tells size (known b cs) table
  pub count : n ≡ length cs
  pub few : n ≤ limit

-- an empty table that has room for the intermediates
pub record MarkAsks (size : ℕ) (b table : List ℕ) : Type 0 where
  pub whole : Whole b
  pub low : (i : ℕ) → i < im_count b → im_of b i < number_limit → im_of b i < size
  pub blank : Tells size (λ _. false) table

-- for whichever size
abbrev pub MarkAsked : List ℕ → List ℕ → Type 0
MarkAsked b table = (size : ℕ) × MarkAsks size b table

abbrev pub MarkGiven : List ℕ → List ℕ → List ℕ → Type 0
MarkGiven b table table' = (size : ℕ) → MarkAsks size b table → Tells size (known b []) table'

-- what the two counts are asked with
abbrev pub LookupsAsked : List ℕ → List ℕ → Type 0
LookupsAsked b table = Whole b × Tells number_limit (known b []) table

abbrev pub ProductsAsked : List ℕ → ℕ → List ℕ → Type 0
ProductsAsked b n table = Whole b × Counted number_limit b (lookups b (pu_count b)) n (2 * number_limit) table
