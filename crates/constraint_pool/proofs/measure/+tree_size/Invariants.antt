-- `constraint_pool::measure::tree_size` meets its contract: each need is one lemma of proofs/Measures.antt. The measure is the node.
-- Assumes nothing.
use Rattle.constraint_pool.proofs.measure.+tree_size.Given as goal

abbrev pub decreases-tree_size : goal.decreases-tree_size
decreases-tree_size l = l.i
