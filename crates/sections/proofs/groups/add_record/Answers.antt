-- `sections::groups::add_record` meets its contract.
-- Assumes nothing.
use Rattle.sections.proofs.Laws.Tables.{added-at, added-not}
use Rattle.sections.proofs.groups.add_record.Goals as goal

pub returns-then-dim-le-DIMENSIONS : goal.returns-then-dim-le-DIMENSIONS
returns-then-dim-le-DIMENSIONS c = added-at c.args.groups.now c.args.section c.args.dim _ c.if-dim-le-DIMENSIONS.true c.group-at.ensures

pub returns-else-dim-le-DIMENSIONS : goal.returns-else-dim-le-DIMENSIONS
returns-else-dim-le-DIMENSIONS c = added-not c.args.groups.now c.args.section c.args.dim c.if-dim-le-DIMENSIONS.false
