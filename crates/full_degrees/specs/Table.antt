-- A table of full degrees, and what the functions that fill it ask and give.
-- Assumes nothing: these are definitions.
use Rattle.std.specs.Prelude.{ℕ, ◌<◌, ◌≡◌, List, [], ◌⊎◌, length, get_or}
use Rattle.std.proofs.Math.Option.{Option}
use Rattle.frames.specs.Order.{node_limit}
use Rattle.search_meaning.specs.Degrees.{full, full_table}
use Rattle.pool.specs.Trees.{tree, forest}
use Rattle.pool.specs.Admission.{Ranked}
use Rattle.pool.specs.Tabled.{Tables, tabled}
use Rattle.pool.specs.Ranking.{Starts}
use Rattle.full_degrees.specs.Coded.{coded, unknown}

-- a pool that is admitted
pub record World (t : Tables) (rank : ℕ → ℕ) : Type 0 where
  pub starts : Starts t []
  pub ranked : Ranked (tabled t) [] rank

module _ (t : Tables) where
  -- the full degree of each expression
  abbrev pub F : ℕ → Option ℕ
  F = full_table (forest (tabled t))

  -- the full degree of the tree at a node
  abbrev pub full_at : ℕ → Option ℕ
  full_at i = full F (tree (tabled t) i)

  -- THE TABLE OF FULL DEGREES: a byte for each node
  pub record Fulls (w : List ℕ) : Type 0 where
    pub size : length w ≡ node_limit
    pub right : (i : ℕ) → i < t.node_count → get_or w i 0 ≡ coded (full_at i)

  -- what stands in a table is right, or not known yet
  pub record Sound (w : List ℕ) : Type 0 where
    pub size : length w ≡ node_limit
    pub right : (i : ℕ) → i < t.node_count → (get_or w i 0 ≡ unknown) ⊎ (get_or w i 0 ≡ coded (full_at i))

  -- what is known stays
  abbrev pub Later : List ℕ → List ℕ → Type 0
  Later w w' = (i : ℕ) → i < t.node_count → get_or w i 0 ≡ coded (full_at i) → get_or w' i 0 ≡ coded (full_at i)
