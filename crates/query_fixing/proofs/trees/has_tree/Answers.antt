-- `query_fixing::trees::has_tree` meets its contract.
-- Assumes nothing.
use Rattle.std.proofs.Common.{◌∙◌}
use Rattle.std.proofs.lemmas.Bool.{lt-leb}
use Rattle.query_fixing.specs.Laws.Trees.{low-kind, high-kind}
use Rattle.query_fixing.proofs.trees.has_tree.Goals as goal

pub returns-then-kind-ge-FIRST_TREE : goal.returns-then-kind-ge-FIRST_TREE
returns-then-kind-ge-FIRST_TREE c = high-kind c.args.tree c.if-kind-ge-FIRST_TREE.true

pub returns-else-kind-ge-FIRST_TREE : goal.returns-else-kind-ge-FIRST_TREE
returns-else-kind-ge-FIRST_TREE c = lt-leb _ _ c.if-kind-ge-FIRST_TREE.false ∙ low-kind c.args.tree c.if-kind-ge-FIRST_TREE.false
