-- The bytes of the nodes and of the expressions that stand in tables, and what writing them gives.
-- Assumes nothing: these are definitions.
use Rattle.std.specs.Prelude.{Option, Some, None, ℕ, ◌+◌, ◌*◌, ◌≤◌, ◌≡◌, cond, List, [], map, length, leb}
use Rattle.kinds.specs.Write.{write}
use Rattle.frames.specs.Order.{node_limit, expression_limit, Input}
use Rattle.frames.specs.Tables.{node_in, expression_in, first}
use Rattle.frames.specs.Written.{node_bytes, expression_bytes, behind_lengths}

-- the first n nodes and the first m expressions of tables, with no request
abbrev pub pool_in : List ℕ → List ℕ → List ℕ → ℕ → ℕ → Input
pool_in nodes literals expressions n m = record { nodes = first (node_in nodes literals) n; expressions = first (expression_in expressions) m; requests = [] }

unfoldable pub nodes_bytes : List ℕ → List ℕ → ℕ → List ℕ
nodes_bytes nodes literals n = behind_lengths (map node_bytes (first (node_in nodes literals) n))

unfoldable pub expressions_bytes : List ℕ → ℕ → List ℕ
expressions_bytes expressions m = behind_lengths (map expression_bytes (first (expression_in expressions) m))

pub record NodesAsk (nodes literals : List ℕ) (n : ℕ) (out : List ℕ) : Type 0 where
  pub few : n ≤ node_limit
  pub room : length (nodes_bytes nodes literals n) ≤ length out

pub record ExpressionsAsk (m : ℕ) (out : List ℕ) (from : ℕ) : Type 0 where
  pub few : m ≤ expression_limit
  pub room : from + 6 * m ≤ length out

pub record PoolAsks (n m : ℕ) : Type 0 where
  pub nodes : n ≤ node_limit
  pub expressions : m ≤ expression_limit

-- bytes at the front of out where they fit, and how many; else there is none, and it is as it was
pub record Writes (bytes out : List ℕ) (w : Option ℕ) (out' : List ℕ) : Type 0 where
  pub answer : w ≡ cond (leb (length bytes) (length out)) (Some (length bytes)) None
  pub after : out' ≡ cond (leb (length bytes) (length out)) (write out 0 bytes) out
