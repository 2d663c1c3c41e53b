-- `plan_tables::columns::put_column` meets its contract. Assumes nothing.
use Rattle.plan_tables.proofs.Growing.{put-none, put_one}
use Rattle.plan_tables.proofs.columns.put_column.Goals as goal

pub returns-then-ask-eq0 : goal.returns-then-ask-eq0
returns-then-ask-eq0 c = put-none c.ask.ensures c.if-ask-eq0.true

pub returns : goal.returns
returns c = put_one c.ask.ensures c.if-ask-eq0.false
