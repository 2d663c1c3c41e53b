-- What the functions that fill a table of full degrees ask and give.
-- Assumes nothing: these are definitions.
use Rattle.std.specs.Prelude.{ℕ, ◌≡◌, List, get_or, replicate}
use Rattle.frames.specs.Order.{node_limit}
use Rattle.pool.specs.Tabled.{Tables}
use Rattle.pool.specs.Ranking.{Tabling}
use Rattle.full_degrees.specs.Coded.{coded, unknown}
use Rattle.full_degrees.specs.Table.{World, full_at, Fulls, Sound, Later}
use Rattle.full_degrees.specs.Parts.{Stands}

module _ (t : Tables) where
  pub record Asks (rank : ℕ → ℕ) (w : List ℕ) (levels i : ℕ) : Type 0 where
    pub stands : Stands t rank levels i
    pub sound : Sound t w

  pub record Gives (w w' : List ℕ) (i r : ℕ) : Type 0 where
    pub is : r ≡ coded (full_at t i)
    pub sound : Sound t w'
    pub later : Later t w w'

  pub record Stores (w w' : List ℕ) (i r : ℕ) : Type 0 where
    pub gives : Gives w w' i r
    pub known : get_or w' i 0 ≡ coded (full_at t i)

-- for whichever literals, counts and ranks: some are asked for, and the answer holds of all
abbrev pub TreeAsked : List ℕ → List ℕ → List ℕ → ℕ → ℕ → Type 0
TreeAsked v x w levels i = (l : List ℕ) × (n : ℕ) × (m : ℕ) × (rank : (ℕ → ℕ)) × Asks (Tabling v l x n m) rank w levels i

abbrev pub NodeGiven : List ℕ → List ℕ → List ℕ → List ℕ → ℕ → ℕ → ℕ → Type 0
NodeGiven v x w w' levels i r = (l : List ℕ) (n m : ℕ) (rank : ℕ → ℕ) → Asks (Tabling v l x n m) rank w levels i → Gives (Tabling v l x n m) w w' i r

abbrev pub TreeGiven : List ℕ → List ℕ → List ℕ → List ℕ → ℕ → ℕ → ℕ → Type 0
TreeGiven v x w w' levels i r = (l : List ℕ) (n m : ℕ) (rank : ℕ → ℕ) → Asks (Tabling v l x n m) rank w levels i → Stores (Tabling v l x n m) w w' i r

-- all nodes, from a table in which nothing is known
abbrev pub FillAsked : List ℕ → List ℕ → List ℕ → ℕ → ℕ → Type 0
FillAsked v x w n m = (w ≡ replicate node_limit unknown) × ((l : List ℕ) × (rank : (ℕ → ℕ)) × World (Tabling v l x n m) rank)

abbrev pub FillGiven : List ℕ → List ℕ → List ℕ → ℕ → ℕ → Type 0
FillGiven v x w' n m = (l : List ℕ) (rank : ℕ → ℕ) → World (Tabling v l x n m) rank → Fulls (Tabling v l x n m) w'
