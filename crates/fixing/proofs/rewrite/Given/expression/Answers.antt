-- `fixing::rewrite::Given::expression` meets its contract.
-- Assumes nothing.
use Rattle.fixing.specs.Laws.Expressions.{becomes-cm, becomes-column, stays-exp, becomes-tmp}
use Rattle.fixing.proofs.rewrite.Given.expression.Goals as goal

pub returns-then-kind : goal.returns-then-kind
returns-then-kind c = becomes-cm _ _ _ c.args.r _ c.rule_for-rule.ensures _ c.rule_kind-kind.ensures c.if-kind.true _ c.rule_id.ensures

pub returns-then-kind-2 : goal.returns-then-kind-2
returns-then-kind-2 c = becomes-column _ _ _ c.args.r _ c.rule_for-rule.ensures _ c.rule_kind-kind.ensures c.if-kind.false c.if-kind-2.true _ c.rule_id-then-kind-2.ensures _ c.rule_dim.ensures

pub returns-then-temporary-eq0 : goal.returns-then-temporary-eq0
returns-then-temporary-eq0 c = stays-exp _ _ _ c.args.r _ c.rule_for-rule.ensures _ c.rule_kind-kind.ensures c.if-kind.false c.if-kind-2.false _ c.temporary-temporary.ensures c.if-temporary-eq0.true

pub returns : goal.returns
returns c = becomes-tmp _ _ _ c.args.r _ c.rule_for-rule.ensures _ c.rule_kind-kind.ensures c.if-kind.false c.if-kind-2.false _ c.temporary-temporary.ensures c.if-temporary-eq0.false
