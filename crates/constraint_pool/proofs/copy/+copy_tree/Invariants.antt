-- `constraint_pool::copy::copy_tree` meets its contract: each need is one lemma of proofs/Trees.antt. The measure is the node.
-- Assumes nothing.
use Rattle.constraint_pool.proofs.copy.+copy_tree.Given as goal

abbrev pub decreases-copy_tree : goal.decreases-copy_tree
decreases-copy_tree l = l.i
