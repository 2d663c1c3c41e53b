-- How many nodes the constraint has, capped one above the limit, and whether columns and counts fit.
-- Assumes nothing: these are definitions.
use Rattle.std.specs.Prelude.{ℕ, ◌+◌, ◌-◌, ◌*◌, ◌≤◌, ◌<◌, min, ◌≡◌, Bool, List, [], ◌∷◌, length, leb}
use Rattle.frames.specs.Order.{node_limit, expression_limit}
use Rattle.pool.specs.Pool.{Pool}
use Rattle.pool.specs.Trees.{tree}
use Rattle.pool.specs.Shaped.{Shaped}
use Rattle.pool.specs.Tabled.{tabled}
use Rattle.pool.specs.Ranking.{Tabling}
use Rattle.constraint_meaning.specs.Numbers.{size}
use Rattle.constraint_pool.specs.Nodes.{body_of}
use Rattle.constraint_pool.specs.Whole.{AllBelow}
use Rattle.constraint_pool.specs.declared.judge.Columns.{Columns}

-- one above the limit of nodes
abbrev pub over : ℕ
over = 4097

-- the tree at node i
pub record SizeAsks (w l x : List ℕ) (n m i : ℕ) : Type 0 where
  pub shaped : Shaped (tabled (Tabling w l x n m))
  pub there : i < n
  pub few : n ≤ node_limit

abbrev pub SizeAsked : List ℕ → ℕ → Type 0
SizeAsked w i = (l : List ℕ) × (x : List ℕ) × (n : ℕ) × (m : ℕ) × SizeAsks w l x n m i

abbrev pub SizeGiven : List ℕ → ℕ → ℕ → Type 0
SizeGiven w i r = (l x : List ℕ) (n m : ℕ) → SizeAsks w l x n m i → r ≡ min over (size (tree (tabled (Tabling w l x n m)) i))

-- what members add: a body and five nodes each
unfoldable pub members_size : Pool → List ℕ → ℕ
members_size p [] = 0
members_size p (e ∷ es) = size (body_of p e) + 5 + members_size p es

pub record MembersSizeAsks (w l x es : List ℕ) (n m : ℕ) : Type 0 where
  pub shaped : Shaped (tabled (Tabling w l x n m))
  pub nodes : n ≤ node_limit
  pub expressions : m ≤ expression_limit
  pub there : AllBelow m es

abbrev pub MembersSizeAsked : List ℕ → List ℕ → List ℕ → Type 0
MembersSizeAsked w x es = (l : List ℕ) × (n : ℕ) × (m : ℕ) × MembersSizeAsks w l x es n m

abbrev pub MembersSizeGiven : List ℕ → List ℕ → List ℕ → ℕ → Type 0
MembersSizeGiven w x es r = (l : List ℕ) (n m : ℕ) → MembersSizeAsks w l x es n m → r ≡ min over (members_size (tabled (Tabling w l x n m)) es)

-- all nodes
pub record WholeSizeAsks (w l x ids es : List ℕ) (n m : ℕ) : Type 0 where
  pub members : MembersSizeAsks w l x es n m
  pub some : 0 < length ids

abbrev pub WholeSizeAsked : List ℕ → List ℕ → List ℕ → List ℕ → ℕ → Type 0
WholeSizeAsked w x ids es n = (l : List ℕ) × (m : ℕ) × WholeSizeAsks w l x ids es n m

abbrev pub WholeSizeGiven : List ℕ → List ℕ → List ℕ → List ℕ → ℕ → ℕ → Type 0
WholeSizeGiven w x ids es n r =
    (l : List ℕ) (m : ℕ) → WholeSizeAsks w l x ids es n m → r ≡ min over (n + 1 + 4 * (length ids - 1) + members_size (tabled (Tabling w l x n m)) es)

abbrev pub columns_fit : Columns → ℕ → Bool
columns_fit c members = leb (c.commitments + members + c.quotients) 65536

abbrev pub counts_fit : Columns → Bool
counts_fit c = leb (c.n_cm1 + c.n_cm2) c.commitments
