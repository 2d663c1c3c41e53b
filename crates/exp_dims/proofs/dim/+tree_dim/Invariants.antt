-- `exp_dims::dim::tree_dim` meets its contract: each need is one lemma of proofs/Trees.antt. The measure is the levels that are left, then the node.
-- Assumes nothing.
use Prim.Native.Nat.{◌+◌, ◌*◌}
use Rattle.exp_dims.proofs.dim.+tree_dim.Given as goal

abbrev pub decreases-tree_dim : goal.decreases-tree_dim
decreases-tree_dim l = l.levels * 4098 + (l.i + 1)
