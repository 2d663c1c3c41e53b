-- Ranking expressions from leaf to leaf, depth first: what the two functions that call each other ask and give.
-- A rank table holds for each expression 0 (not reached), 1 (its leaves are being followed), or its rank and 2.
-- Assumes nothing: these are definitions.
use Rattle.std.specs.Prelude.{Option, Some, None, ℕ, zero, suc, ◌+◌, ◌-◌, ◌<◌, ◌≤◌, ◌≡◌, Bool, cond, List, [], ◌∷◌, ◌⊎◌, length, get_or, ltb}
use Rattle.std.proofs.Math.Option.{some}
use Rattle.frames.specs.Order.{node_limit, expression_limit}
use Rattle.meaning.specs.Trees.{leaves, Each, Member}
use Rattle.pool.specs.Pool.{Pool, root_of}
use Rattle.pool.specs.Trees.{tree}
use Rattle.pool.specs.Shaped.{Shaped}
use Rattle.pool.specs.Admission.{leads_to, Walk, ClosedWalk, Ranked}
use Rattle.pool.specs.Tabled.{Tables, tabled}

-- how many of the first m pass a test
unfoldable pub count_below : (ℕ → Bool) → ℕ → ℕ
count_below f zero = 0
count_below f (suc m) = cond (f m) (suc (count_below f m)) (count_below f m)

-- not ranked yet
abbrev pub pending : List ℕ → ℕ → Bool
pending s e = ltb (get_or s e 0) 2

-- not reached yet
unfoldable pub zeros : List ℕ → ℕ
zeros [] = 0
zeros (zero ∷ l) = suc (zeros l)
zeros (suc x ∷ l) = zeros l

-- ranks fall in number with what is ranked: s' after s
abbrev pub Later : List ℕ → List ℕ → Type 0
Later s s' = (e : ℕ) → (get_or s' e 0 ≡ get_or s e 0) ⊎ ((get_or s e 0 ≡ 0) × (2 ≤ get_or s' e 0))

module _ (t : Tables) (table : List ℕ) where
  abbrev pub P : Pool
  P = tabled t

  -- each expression that a tree's leaves lead to has what Q says
  abbrev pub Leads : (ℕ → Type 0) → ℕ → Type 0
  Leads Q n = Each (λ w. (u : ℕ) → leads_to table w ≡ some u → Q u) (leaves (tree P n))

  -- what is ranked has a lower rank for each expression that its leaves lead to
  pub record Sound (s : List ℕ) (done : ℕ) : Type 0 where
    pub low : (b : ℕ) → b < t.expression_count → 2 ≤ get_or s b 0 → get_or s b 0 < done + 2
    pub falls : (b : ℕ) → b < t.expression_count → 2 ≤ get_or s b 0 → Leads (λ u. (2 ≤ get_or s u 0) × (get_or s u 0 < get_or s b 0)) (root_of P b)

  pub record State (s : List ℕ) (done : ℕ) : Type 0 where
    pub shaped : Shaped P
    pub few_nodes : t.node_count ≤ node_limit
    pub few_expressions : t.expression_count ≤ expression_limit
    pub tabulated : (u : ℕ) → Member u table → u < t.expression_count
    pub size : length s ≡ expression_limit
    pub sound : Sound s done
    pub counted : done + count_below (pending s) t.expression_count ≡ t.expression_count

  -- each expression whose leaves are being followed leads to u
  abbrev pub Follows : List ℕ → ℕ → Type 0
  Follows s u = (g : ℕ) → get_or s g 0 ≡ 1 → Walk P table g u

  pub record AsksVisit (s : List ℕ) (done e : ℕ) : Type 0 where
    pub state : State s done
    pub there : e < t.expression_count
    pub follows : Follows s e

  pub record AsksWalk (s : List ℕ) (done n : ℕ) : Type 0 where
    pub state : State s done
    pub there : n < t.node_count
    pub follows : Leads (Follows s) n

  -- the state after, and that what was asked for is ranked
  pub record Ranks (s s' : List ℕ) (done : ℕ) (Goal : Type 0) : Type 0 where
    pub state : State s' done
    pub later : Later s s'
    pub goal : Goal

  -- a closed walk, where there is no answer, or how many are ranked
  abbrev pub Gives : List ℕ → List ℕ → Option ℕ → Type 0 → Type 0
  Gives s s' r Goal = ((r ≡ None) × ClosedWalk P table) ⊎ ((done : ℕ) × (r ≡ Some done) × Ranks s s' done Goal)

-- for whichever literals and counts: some are asked for, and the answer holds of all
abbrev pub Tabling : List ℕ → List ℕ → List ℕ → ℕ → ℕ → Tables
Tabling w l x n m = record { nodes = w; literals = l; expressions = x; node_count = n; expression_count = m }

abbrev pub VisitAsked : List ℕ → List ℕ → List ℕ → List ℕ → ℕ → ℕ → Type 0
VisitAsked w x table s done e = (l : List ℕ) × (n : ℕ) × (m : ℕ) × AsksVisit (Tabling w l x n m) table s done e

abbrev pub WalkAsked : List ℕ → List ℕ → List ℕ → List ℕ → ℕ → ℕ → Type 0
WalkAsked w x table s done i = (l : List ℕ) × (n : ℕ) × (m : ℕ) × AsksWalk (Tabling w l x n m) table s done i

abbrev pub VisitGiven : List ℕ → List ℕ → List ℕ → List ℕ → List ℕ → ℕ → ℕ → Option ℕ → Type 0
VisitGiven w x table s s' done e r =
    (l : List ℕ) (n m : ℕ) → AsksVisit (Tabling w l x n m) table s done e → Gives (Tabling w l x n m) table s s' r (2 ≤ get_or s' e 0)

abbrev pub WalkGiven : List ℕ → List ℕ → List ℕ → List ℕ → List ℕ → ℕ → ℕ → Option ℕ → Type 0
WalkGiven w x table s s' done i r =
    (l : List ℕ) (n m : ℕ) → AsksWalk (Tabling w l x n m) table s done i →
    Gives (Tabling w l x n m) table s s' r (Leads (Tabling w l x n m) table (λ u. 2 ≤ get_or s' u 0) i)

-- ── all expressions ──────────────────────────────────────────────────────────
-- a pool that has its shape, within the limits, and a table whose expressions are there
pub record Starts (t : Tables) (table : List ℕ) : Type 0 where
  pub shaped : Shaped (tabled t)
  pub few_nodes : t.node_count ≤ node_limit
  pub few_expressions : t.expression_count ≤ expression_limit
  pub tabulated : (u : ℕ) → Member u table → u < t.expression_count

-- the rank that stands in a table of ranks
abbrev pub rank_in : List ℕ → ℕ → ℕ
rank_in s e = get_or s e 0 - 2

abbrev pub AllAsked : List ℕ → List ℕ → List ℕ → ℕ → Type 0
AllAsked w x table m = (l : List ℕ) × (n : ℕ) × Starts (Tabling w l x n m) table

-- a closed walk, where there are no ranks
abbrev pub Outcome : Tables → List ℕ → Option (List ℕ) → Type 0
Outcome t table None = ClosedWalk (tabled t) table
Outcome t table (Some ranks) = Ranked (tabled t) table (rank_in ranks)

abbrev pub AllGiven : List ℕ → List ℕ → List ℕ → ℕ → Option (List ℕ) → Type 0
AllGiven w x table m r = (l : List ℕ) (n : ℕ) → Starts (Tabling w l x n m) table → Outcome (Tabling w l x n m) table r
