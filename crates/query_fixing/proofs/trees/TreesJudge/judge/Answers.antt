-- `query_fixing::trees::TreesJudge::judge` meets its contract.
-- Assumes nothing.
use mathlib.Core.Path.{◌∙◌, ap}
use Rattle.kinds.specs.References.{ref_at}
use Rattle.query_fixing.specs.QueryCode.{tree_for}
use Rattle.query_fixing.specs.Laws.Trees.{no-cm, tree-there, tree-lost}
use Rattle.query_fixing.proofs.trees.TreesJudge.judge.Goals as goal

pub returns-then-list-at-ne-CM : goal.returns-then-list-at-ne-CM
unfolding ref_at
returns-then-list-at-ne-CM c = no-cm _ (ref_at c.args.list.now c.args.at) c.if-list-at-ne-CM.true

pub returns-then-has_tree : goal.returns-then-has_tree
unfolding ref_at
returns-then-has_tree c = tree-there _ (ref_at c.args.list.now c.args.at) c.if-list-at-ne-CM.false _ (c.of.ensures ∙ ap (tree_for c.args.self.now.trees.now) c.u16_at.ensures) _ c.has_tree.ensures c.if-has_tree.true

pub returns : goal.returns
unfolding ref_at
returns c = tree-lost _ (ref_at c.args.list.now c.args.at) c.if-list-at-ne-CM.false _ (c.of.ensures ∙ ap (tree_for c.args.self.now.trees.now) c.u16_at.ensures) _ c.has_tree.ensures c.if-has_tree.false
