-- `query_fixing::trees::TreesRewrite::rewrite` meets its contract.
-- Assumes nothing.
use Rattle.query_fixing.specs.QueryCode.{tree_reference}
use native.Mathlib.Omega.{arith}
use Rattle.kinds.specs.References.{ref_at}
use Rattle.lent_lists.specs.Laws.Rewriting.{kept_put}
use Rattle.query_fixing.specs.Laws.Trees.{stays}
use Rattle.query_fixing.proofs.trees.TreesRewrite.rewrite.Goals as goal

pub returns-else-list-at-eq-CM : goal.returns-else-list-at-eq-CM
unfolding ref_at
returns-else-list-at-eq-CM c = kept_put (tree_reference c.args.self.now.trees.now) c.args.list.now c.args.at (λ i. omega (arith, c.slice_known-1.given i)) (stays c.args.self.now.trees.now (ref_at c.args.list.now c.args.at) c.if-list-at-eq-CM.false)
