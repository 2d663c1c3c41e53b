-- `degree_rule::rule::column` meets its contract. Assumes nothing.
use Rattle.degree_rule.proofs.Visits.{column-none, column-one}
use Rattle.degree_rule.proofs.rule.column.Goals as goal

pub returns-then-m-lt1 : goal.returns-then-m-lt1
returns-then-m-lt1 c = column-none c.args.m c.if-m-lt1.true

pub returns : goal.returns
returns c = column-one c.args.m c.if-m-lt1.false
