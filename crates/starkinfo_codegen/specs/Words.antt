-- A node as it stands in the table of words: with the literals of another table, or without its literal.
-- Assumes nothing: these are definitions.
use Rattle.std.specs.Prelude.{ℕ, List, []}
use Rattle.frames.specs.declared.node.Node.{Node}
use Rattle.frames.specs.Tables.{node_in}

abbrev pub node_with : List ℕ → List ℕ → ℕ → Node
node_with w literals n = node_in w literals n

abbrev pub node_of_words : List ℕ → ℕ → Node
node_of_words w n = node_with w [] n
