-- `readable::tree::put_tree` is safe, and what it puts fits the page. The measure is the parent's number.
-- Assumes nothing.
use Rattle.readable.proofs.tree.+put_tree.Given as goal

abbrev pub decreases-put_tree : goal.decreases-put_tree
decreases-put_tree l = l.below
