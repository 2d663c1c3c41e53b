-- `readable::tree::put_leaf` is safe, and what it puts fits the page.
-- Assumes nothing.
use Rattle.readable.proofs.Leaves.{next_fits}
use Rattle.readable.proofs.tree.put_leaf.Goals as goal

pub leaf_reference-leaf-requires : goal.leaf_reference-leaf-requires
leaf_reference-leaf-requires c = (c.requires.node, next_fits _ _)
