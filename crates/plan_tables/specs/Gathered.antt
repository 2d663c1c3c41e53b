-- What gathering the expressions with a temporary column asks and gives, one after the other. Assumes nothing: these are definitions.
use Rattle.std.specs.Prelude.{ℕ, ◌+◌, ◌*◌, ◌≤◌, ◌≡◌, cond, List, get_or, set, eqb}
use Rattle.frames.specs.Order.{expression_limit}
use Rattle.plans.specs.Plan.{Whole, pu_count}
use Rattle.plans.specs.Columns as plan
use Rattle.plans.specs.Columns.{record_limit, record_count, lookups}
use Rattle.plans.specs.Counting.{Asked, Counted, added}
use Rattle.plans.specs.Passed.{NamesThere}
use Rattle.plan_tables.specs.Listed.{Listed}

-- THE EXPRESSIONS WITH A TEMPORARY COLUMN, in the order of their columns
abbrev pub columns_of : List ℕ → List ℕ
columns_of b = plan.columns b

-- one expression asked, and put where it is new
pub record ColumnPut (seen seen' columns columns' : List ℕ) (n e r : ℕ) : Type 0 where
  pub asked : Asked seen e (added seen e) seen'
  pub count : r ≡ n + added seen e
  pub held : columns' ≡ cond (eqb (get_or seen e 0) 1) columns (set columns n e)

-- the expressions cs at the front of a table that was l, no more than a limit, and the table that tells them
pub record Gathered (b l : List ℕ) (limit : ℕ) (seen columns : List ℕ) (n : ℕ) (cs : List ℕ) : Type 0 where
  pub counted : Counted expression_limit b cs n limit seen
  pub listed : Listed l columns n cs

-- after the pu: for whichever table before them
abbrev pub AfterLookups : List ℕ → List ℕ → List ℕ → List ℕ → ℕ → Type 0
AfterLookups b l seen columns n = Gathered b l (2 * pu_count b) seen columns n (lookups b (pu_count b))

-- a plan that fits, whose names are expressions that a pool can have
abbrev pub Fitting : List ℕ → Type 0
Fitting b = Whole b × (record_count b ≤ record_limit) × NamesThere b expression_limit

abbrev pub ProductsAsked : List ℕ → List ℕ → List ℕ → ℕ → Type 0
ProductsAsked b seen columns n = Fitting b × ((l : List ℕ) × AfterLookups b l seen columns n)

abbrev pub ProductsGiven : List ℕ → List ℕ → List ℕ → ℕ → List ℕ → ℕ → Type 0
ProductsGiven b seen columns n columns' r = (l : List ℕ) → AfterLookups b l seen columns n → Listed l columns' r (columns_of b)
