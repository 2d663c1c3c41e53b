-- What filling the records of the expressions asks and gives. Assumes nothing: these are definitions.
use Rattle.std.specs.Prelude.{ℕ, ◌<◌, ◌≤◌, ◌≡◌, true, List, length, get_or, take, replicate}
use Rattle.kinds.specs.Write.{write}
use Rattle.frames.specs.Order.{expression_limit}
use Rattle.plans.specs.Columns.{record_limit}
use Rattle.plans.specs.Agreement.{names_there}
use Rattle.map_records.specs.Tables.{Planned}
use Rattle.plan_tables.specs.Tables.{of_column, no_record, records_of}
use Rattle.plan_tables.specs.Cells.{Cells}
use Rattle.plan_tables.specs.Gathered.{columns_of}

-- ── the columns' records ─────────────────────────────────────────────────────
-- columns of expressions that are among n
pub record PlacesAsks (n : ℕ) (columns : List ℕ) (count : ℕ) (t : List ℕ) : Type 0 where
  pub few_expressions : n ≤ expression_limit
  pub few : count ≤ record_limit
  pub inside : count ≤ length columns
  pub there : (k : ℕ) → k < count → get_or columns k 0 < n
  pub full : length t ≡ expression_limit

abbrev pub PlacesAsked : List ℕ → ℕ → List ℕ → Type 0
PlacesAsked columns count t = (n : ℕ) × PlacesAsks n columns count t

-- the record of the first of the columns that is e's; else what stood there
abbrev pub by_places : List ℕ → List ℕ → ℕ → List ℕ → ℕ → ℕ
by_places columns temporaries count before e = of_column (λ k. get_or temporaries k 0) e 0 (take count columns) (get_or before e 0)

abbrev pub PlacesGiven : List ℕ → List ℕ → ℕ → List ℕ → List ℕ → Type 0
PlacesGiven columns temporaries count t t' = (n : ℕ) → PlacesAsks n columns count t → Cells n (by_places columns temporaries count t) t t'

-- ── all records ──────────────────────────────────────────────────────────────
-- a plan that is fine with n expressions, its columns, and no record yet
pub record RecordsAsks (b : List ℕ) (n : ℕ) (columns : List ℕ) (count : ℕ) (t : List ℕ) : Type 0 where
  pub planned : Planned b
  pub names : names_there b n ≡ true
  pub few_expressions : n ≤ expression_limit
  pub counted : count ≡ length (columns_of b)
  pub listed : take count columns ≡ columns_of b
  pub cleared : t ≡ replicate expression_limit no_record

abbrev pub RecordsAsked : List ℕ → List ℕ → ℕ → List ℕ → Type 0
RecordsAsked b columns count t = (n : ℕ) × RecordsAsks b n columns count t

-- THE RECORDS of the n expressions stand at the front
abbrev pub RecordsGiven : List ℕ → List ℕ → List ℕ → ℕ → List ℕ → List ℕ → List ℕ → Type 0
RecordsGiven b columns temporaries count cms t t' = (n : ℕ) → RecordsAsks b n columns count t → t' ≡ write t 0 (records_of b cms temporaries (columns_of b) n)
