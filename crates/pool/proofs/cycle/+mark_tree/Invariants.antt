-- `pool::cycle::mark_tree` meets its contract: each need is one lemma of proofs/Spread.antt. The measure is the node.
-- Assumes nothing.
use Rattle.pool.proofs.cycle.+mark_tree.Given as goal

abbrev pub decreases-mark_tree : goal.decreases-mark_tree
decreases-mark_tree l = l.i
