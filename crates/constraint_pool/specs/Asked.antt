-- What the functions ask and give, over tables.
-- Assumes nothing: these are definitions.
use Rattle.std.specs.Prelude.{ℕ, ◌+◌, ◌*◌, ◌≤◌, ◌<◌, ◌≡◌, List, [], ◌∷◌, length}
use Rattle.kinds.specs.Write.{write}
use Rattle.frames.specs.Order.{node_limit}
use Rattle.frames.specs.Tables.{head_word, child_word}
use Rattle.frames.specs.declared.node.Node.{Node}
use Rattle.pool.specs.Pool.{Pool, node}
use Rattle.pool.specs.Trees.{tree}
use Rattle.pool.specs.Shaped.{Shaped}
use Rattle.pool.specs.Tabled.{tabled}
use Rattle.pool.specs.Ranking.{Tabling}
use Rattle.constraint_meaning.specs.Numbers.{size}
use Rattle.constraint_pool.specs.Nodes.{copied, member_nodes}

-- the words of nodes, two each
unfoldable pub words_of : List Node → List ℕ
words_of [] = []
words_of (x ∷ xs) = head_word x ∷ child_word x ∷ words_of xs

unfoldable pub magnitudes_of : List Node → List ℕ
magnitudes_of [] = []
magnitudes_of (x ∷ xs) = x.magnitude ∷ magnitudes_of xs

-- NODES STORED from number n on, and the first number after them
pub record Appends (w l : List ℕ) (n : ℕ) (ns : List Node) (w' l' : List ℕ) (r : ℕ) : Type 0 where
  pub words : w' ≡ write w (2 * n) (words_of ns)
  pub literals : l' ≡ write l n (magnitudes_of ns)
  pub next : r ≡ n + length ns

abbrev pub copied_at : Pool → ℕ → ℕ → List Node
copied_at p n i = copied (node p) n (tree p i)

-- the tree at node i of a pool in the tables, copied to numbers from at on
pub record CopyAsks (w l x : List ℕ) (n m at i : ℕ) : Type 0 where
  pub shaped : Shaped (tabled (Tabling w l x n m))
  pub there : i < n
  pub after : n ≤ at
  pub room : at + size (tree (tabled (Tabling w l x n m)) i) ≤ node_limit

-- for whichever expressions and counts: some are asked for, and the answer holds of all
abbrev pub CopyAsked : List ℕ → List ℕ → ℕ → ℕ → Type 0
CopyAsked w l at i = (x : List ℕ) × (n : ℕ) × (m : ℕ) × CopyAsks w l x n m at i

abbrev pub CopyGiven : List ℕ → List ℕ → ℕ → ℕ → List ℕ → List ℕ → ℕ → Type 0
CopyGiven w l at i w' l' r = (x : List ℕ) (n m : ℕ) → CopyAsks w l x n m at i → Appends w l at (copied_at (tabled (Tabling w l x n m)) at i) w' l' r

-- ---- joining

pub record ScaleAsks (at : ℕ) : Type 0 where
  pub some : 0 < at
  pub room : at + 2 ≤ node_limit

pub record IdentityAsks (at : ℕ) : Type 0 where
  pub some : 0 < at
  pub room : at + 4 ≤ node_limit

-- the body at node i, joined after what stands before at
pub record MemberAsks (w l x : List ℕ) (n m at i : ℕ) : Type 0 where
  pub shaped : Shaped (tabled (Tabling w l x n m))
  pub there : i < n
  pub after : n ≤ at
  pub some : 0 < at
  pub room : at + (size (tree (tabled (Tabling w l x n m)) i) + 5) ≤ node_limit

abbrev pub MemberAsked : List ℕ → List ℕ → ℕ → ℕ → Type 0
MemberAsked w l at i = (x : List ℕ) × (n : ℕ) × (m : ℕ) × MemberAsks w l x n m at i

abbrev pub MemberGiven : List ℕ → List ℕ → ℕ → ℕ → ℕ → ℕ → List ℕ → List ℕ → ℕ → Type 0
MemberGiven w l at vc i cm w' l' r =
    (x : List ℕ) (n m : ℕ) → MemberAsks w l x n m at i →
    Appends w l at (member_nodes (node (tabled (Tabling w l x n m))) vc at (tree (tabled (Tabling w l x n m)) i) cm) w' l' r
