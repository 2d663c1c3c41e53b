-- The pool that stands in tables, with its counts.
-- Assumes nothing: these are definitions.
use Rattle.std.specs.Prelude.{ℕ, List, [], ◌∷◌}
use Rattle.meaning.specs.Trees.{up_to}
use Rattle.frames.specs.Tables.{count_in, node_in, expression_in, first as first_of}
use Rattle.pool.specs.Words.{c0_in, c1_in, c2_in}
use Rattle.pool.specs.Pool.{Pool}

-- the tables of nodes, of literals and of expressions, and how many nodes and expressions stand in them
pub record Tables : Type 0 where
  pub nodes : List ℕ
  pub literals : List ℕ
  pub expressions : List ℕ
  pub node_count : ℕ
  pub expression_count : ℕ

unfoldable pub tabled : Tables → Pool
tabled t = record { nodes = first_of (node_in t.nodes t.literals) t.node_count; expressions = first_of (expression_in t.expressions) t.expression_count }

abbrev pub children_in : List ℕ → ℕ → List ℕ
children_in w n = up_to (count_in w n) (c0_in w n ∷ c1_in w n ∷ c2_in w n ∷ [])
