-- `query_fixing::trees::Trees::reference` meets its contract.
-- Assumes nothing.
use Rattle.query_fixing.specs.Laws.Trees.{stays, becomes-tree}
use Rattle.query_fixing.proofs.trees.Trees.reference.Goals as goal

pub returns-then-r-ne-CM : goal.returns-then-r-ne-CM
returns-then-r-ne-CM c = stays _ c.args.r c.if-r-ne-CM.true

pub returns : goal.returns
returns c = becomes-tree _ c.args.r c.if-r-ne-CM.false _ c.of-tree.ensures
