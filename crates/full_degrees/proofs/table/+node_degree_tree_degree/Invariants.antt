-- `full_degrees::table::tree_degree` and `node_degree` meet their contracts: each need is one lemma of proofs/Nodes.antt. The measure is the levels that are left,
-- then the node. Assumes nothing.
use Prim.Native.Nat.{◌+◌, ◌*◌}
use Rattle.full_degrees.proofs.table.+node_degree_tree_degree.Given as goal

abbrev pub decreases-node_degree : goal.decreases-node_degree
decreases-node_degree l = l.levels * 8200 + (2 * l.i + 1)

abbrev pub decreases-tree_degree : goal.decreases-tree_degree
decreases-tree_degree l = l.levels * 8200 + (2 * l.i + 2)
