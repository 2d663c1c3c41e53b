-- `query_fixing::trees::Trees::of` meets its contract.
-- Assumes nothing.
use Rattle.std.proofs.Common.{rules}
use Rattle.query_fixing.specs.QueryCode.{tree_for}
use Rattle.query_fixing.proofs.trees.Trees.of.Goals as goal

pub returns : goal.returns
unfolding tree_for
returns c = search rules
