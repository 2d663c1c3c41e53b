-- A pool with the shape that document 01 asks for: what the absence of refusals 2 and 3 says.
-- Assumes nothing: these are definitions.
use Rattle.std.specs.Prelude.{ℕ, ◌<◌, ◌≤◌, ◌≡◌, length}
use Rattle.meaning.specs.Trees.{Each}
use Rattle.kinds.specs.KindBytes as kind
use Rattle.kinds.specs.Kinds.{child_count}
use Rattle.pool.specs.Pool.{Pool, node, root_of, children, uses, times}

pub record Shaped (p : Pool) : Type 0 where
  -- the child count is the table's
  pub counts : (n : ℕ) → n < length p.nodes → (node p n).count ≡ child_count (node p n).kind
  -- a child has a smaller number than its parent
  pub earlier : (n : ℕ) → n < length p.nodes → Each (λ c. c < n) (children (node p n))
  -- every node has at most one use
  pub once : (n : ℕ) → n < length p.nodes → times n (uses p) ≤ 1
  -- the expression of an exp leaf is there
  pub asked : (n : ℕ) → n < length p.nodes → (node p n).kind ≡ kind.exp → (node p n).id < length p.expressions
  -- and so is every root
  pub rooted : (e : ℕ) → e < length p.expressions → root_of p e < length p.nodes
