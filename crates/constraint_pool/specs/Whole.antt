-- What the functions that add the whole constraint ask and give.
-- Assumes nothing: these are definitions.
use Rattle.std.specs.Prelude.{ℕ, ◌+◌, ◌*◌, ◌-◌, ◌≤◌, ◌<◌, ◌≡◌, List, length, get_or, drop, set}
use Rattle.frames.specs.Order.{node_limit, expression_limit}
use Rattle.frames.specs.Tables.{expression_word}
use Rattle.pool.specs.Shaped.{Shaped}
use Rattle.pool.specs.Tabled.{tabled}
use Rattle.pool.specs.Ranking.{Tabling}
use Rattle.constraint_pool.specs.Nodes.{members_nodes, constraint_nodes}
use Rattle.constraint_pool.specs.Asked.{Appends}

-- each is below m
abbrev pub AllBelow : ℕ → List ℕ → Type 0
AllBelow m es = (k : ℕ) → k < length es → get_or es k 0 < m

pub record IdentitiesAsk (es : List ℕ) (at : ℕ) : Type 0 where
  pub some : 0 < at
  pub small : AllBelow 65536 es
  pub room : at + 4 * length es ≤ node_limit

pub record MembersAsk (w l x : List ℕ) (n m : ℕ) (es : List ℕ) (at vc cm : ℕ) : Type 0 where
  pub shaped : Shaped (tabled (Tabling w l x n m))
  pub few : m ≤ expression_limit
  pub there : AllBelow m es
  pub after : n ≤ at
  pub some : 0 < at
  pub columns : cm + length es ≤ 65536
  pub room : at + length (members_nodes (tabled (Tabling w l x n m)) vc at cm es) ≤ node_limit

abbrev pub MembersAsked : List ℕ → List ℕ → List ℕ → List ℕ → ℕ → ℕ → ℕ → Type 0
MembersAsked w l x es at vc cm = (n : ℕ) × (m : ℕ) × MembersAsk w l x n m es at vc cm

abbrev pub MembersGiven : List ℕ → List ℕ → List ℕ → List ℕ → ℕ → ℕ → ℕ → List ℕ → List ℕ → ℕ → Type 0
MembersGiven w l x es at vc cm w' l' r =
    (n m : ℕ) → MembersAsk w l x n m es at vc cm → Appends w l at (members_nodes (tabled (Tabling w l x n m)) vc at cm es) w' l' r

-- the pool has its shape, there is an identity, identities and members are there, and there is room for the constraint
pub record ConstraintAsks (w l x ids es : List ℕ) (vc cm n m : ℕ) : Type 0 where
  pub shaped : Shaped (tabled (Tabling w l x n m))
  pub few : m < expression_limit
  pub some : 0 < length ids
  pub identities : AllBelow m ids
  pub members : AllBelow m es
  pub columns : cm + length es ≤ 65536
  pub room : n + length (constraint_nodes (tabled (Tabling w l x n m)) vc cm (get_or ids 0 0) (drop 1 ids) es) ≤ node_limit

-- THE TABLES WITH THE CONSTRAINT
pub record Adds (w l x ids es : List ℕ) (vc cm n m : ℕ) (w' l' x' : List ℕ) (r : ℕ) : Type 0 where
  pub nodes : Appends w l n (constraint_nodes (tabled (Tabling w l x n m)) vc cm (get_or ids 0 0) (drop 1 ids) es) w' l' r
  pub expressions : x' ≡ set x m (expression_word (record { root = r - 1; flags = 0 }))
