-- `plan_walks::fix::fill_plan_rules` meets its contract: the rules are those of the plan's columns and intermediates (proofs/Fixes.antt). Assumes nothing.
use mathlib.Core.Path.{refl}
use Rattle.plan_walks.proofs.Fixes.{fitting, rules-asks, rules-given}
use Rattle.plan_walks.proofs.fix.fill_plan_rules.Goals as goal

pub column_expressions-count-requires : goal.column_expressions-count-requires
column_expressions-count-requires c = fitting c.requires.0

pub q2exp_at-at-requires : goal.q2exp_at-at-requires
q2exp_at-at-requires c = (fitting c.requires.0).0.0

pub fill_rules-requires : goal.fill_rules-requires
fill_rules-requires c = (c.requires.0.literals, c.requires.0.node_count, c.requires.0.plan.expressions, c.requires.0.stands.rank, rules-asks c.requires.0 c.column_expressions-count.ensures refl c.q2exp_at-at.ensures.is c.requires.1)

pub returns : goal.returns
returns c = λ z. rules-given z c.column_expressions-count.ensures refl c.q2exp_at-at.ensures.is c.args.in_n c.requires.1 c.fill_rules.ensures
