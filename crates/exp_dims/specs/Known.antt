-- What the functions ask and give, over tables: a table of bytes holds for each expression its dimension, or 255 where it is not known.
-- Assumes nothing: these are definitions.
use Rattle.std.specs.Prelude.{ℕ, ◌<◌, ◌≡◌, cond, List, ◌⊎◌, length, get_or, eqb}
use Rattle.kinds.specs.KindBytes as kind
use Rattle.kinds.specs.Range.{within}
use Rattle.frames.specs.Order.{expression_limit}
use Rattle.frames.specs.Tables.{kind_in, id_in}
use Rattle.pool.specs.Trees.{tree}
use Rattle.pool.specs.Admission.{Ranked}
use Rattle.pool.specs.Tabled.{Tables, tabled}
use Rattle.pool.specs.Ranking.{Tabling, Starts, Leads}
use Rattle.exp_dims.specs.Dimension.{tree_dim, exp_dim}

-- a leaf that leads to no expression, by its kind
abbrev pub leaf_dim_by : List ℕ → ℕ → ℕ → ℕ
leaf_dim_by dims k i =
    cond (eqb k kind.cm) (get_or dims i 0)
    (cond (eqb k kind.q) 0
    (cond (within kind.challenge kind.x_div_x_sub_w_xi k) 3 1))

abbrev pub leaf_dim_in : List ℕ → List ℕ → ℕ → ℕ
leaf_dim_in w dims n = leaf_dim_by dims (kind_in w n) (id_in w n)

abbrev pub unknown : ℕ
unknown = 255

-- what is kept of a dimension: itself, or nothing
abbrev pub Kept : ℕ → ℕ → Type 0
Kept d r = (r ≡ unknown) ⊎ ((r ≡ d) × (d < unknown))

module _ (t : Tables) (table dims : List ℕ) where
  abbrev pub D : ℕ → ℕ
  D = exp_dim dims table (tabled t)

  -- what is known is the dimension
  pub record Sound (known : List ℕ) : Type 0 where
    pub size : length known ≡ expression_limit
    pub right : (e : ℕ) → e < t.expression_count → Kept (D e) (get_or known e 0)

  -- a pool that is admitted
  pub record World (rank : ℕ → ℕ) : Type 0 where
    pub starts : Starts t table
    pub ranked : Ranked (tabled t) table rank

  pub record TreeAsks (rank : ℕ → ℕ) (known : List ℕ) (levels i : ℕ) : Type 0 where
    pub world : World rank
    pub there : i < t.node_count
    pub sound : Sound known
    pub deep : Leads t table (λ u. rank u < levels) i

  pub record Gives (known : List ℕ) (d r : ℕ) : Type 0 where
    pub is : r ≡ d
    pub sound : Sound known

  pub record ExpAsks (rank : ℕ → ℕ) (known : List ℕ) (e : ℕ) : Type 0 where
    pub world : World rank
    pub there : e < t.expression_count
    pub sound : Sound known

-- for whichever literals, counts and ranks: some are asked for, and the answer holds of all
abbrev pub TreeAsked : List ℕ → List ℕ → List ℕ → List ℕ → List ℕ → ℕ → ℕ → Type 0
TreeAsked w x table dims known levels i =
    (l : List ℕ) × (n : ℕ) × (m : ℕ) × (rank : (ℕ → ℕ)) × TreeAsks (Tabling w l x n m) table dims rank known levels i

abbrev pub TreeGiven : List ℕ → List ℕ → List ℕ → List ℕ → List ℕ → List ℕ → ℕ → ℕ → ℕ → Type 0
TreeGiven w x table dims known known' levels i r =
    (l : List ℕ) (n m : ℕ) (rank : ℕ → ℕ) → TreeAsks (Tabling w l x n m) table dims rank known levels i →
    Gives (Tabling w l x n m) table dims known' (tree_dim dims table (D (Tabling w l x n m) table dims) (tree (tabled (Tabling w l x n m)) i)) r

abbrev pub ExpAsked : List ℕ → List ℕ → List ℕ → List ℕ → List ℕ → ℕ → Type 0
ExpAsked w x table dims known e = (l : List ℕ) × (n : ℕ) × (m : ℕ) × (rank : (ℕ → ℕ)) × ExpAsks (Tabling w l x n m) table dims rank known e

abbrev pub ExpGiven : List ℕ → List ℕ → List ℕ → List ℕ → List ℕ → List ℕ → ℕ → ℕ → Type 0
ExpGiven w x table dims known known' e r =
    (l : List ℕ) (n m : ℕ) (rank : ℕ → ℕ) → ExpAsks (Tabling w l x n m) table dims rank known e →
    Gives (Tabling w l x n m) table dims known' (D (Tabling w l x n m) table dims e) r
