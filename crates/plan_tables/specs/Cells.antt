-- A TABLE BY EXPRESSION, filled from the columns and then from the intermediates: what it holds, and what filling it asks and gives.
-- Assumes nothing: these are definitions.
use Rattle.std.specs.Prelude.{ℕ, ◌<◌, ◌≤◌, ◌≡◌, List, length, get_or}
use Rattle.frames.specs.Order.{expression_limit}
use Rattle.plans.specs.Plan.{Whole, im_count, im_of}
use Rattle.plan_tables.specs.Tables.{of_im}

-- the first n cells by a function, those behind them as they were
pub record Cells (n : ℕ) (g : ℕ → ℕ) (before t : List ℕ) : Type 0 where
  pub full : length before ≡ expression_limit
  pub few : n ≤ expression_limit
  pub size : length t ≡ length before
  pub front : (e : ℕ) → e < n → get_or t e 0 ≡ g e
  pub behind : (e : ℕ) → n ≤ e → get_or t e 0 ≡ get_or before e 0

-- the intermediates are among n expressions
pub record ImsAsks (b : List ℕ) (n : ℕ) (g : ℕ → ℕ) (before t : List ℕ) : Type 0 where
  pub there : (i : ℕ) → i < im_count b → im_of b i < n
  pub cells : Cells n g before t

-- for whichever cells: some are asked for, and the answer holds of all
abbrev pub ImsAsked : List ℕ → List ℕ → Type 0
ImsAsked b t = Whole b × ((n : ℕ) × (g : (ℕ → ℕ)) × (before : List ℕ) × ImsAsks b n g before t)

abbrev pub ImsGiven : List ℕ → List ℕ → List ℕ → (ℕ → ℕ) → Type 0
ImsGiven b t t' f = (n : ℕ) (g : ℕ → ℕ) (before : List ℕ) → ImsAsks b n g before t → Cells n (λ e. of_im b f e (im_count b) (g e)) before t'
