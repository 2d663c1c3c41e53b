-- `sections::groups::next_position` meets its contract.
-- Assumes nothing.
use Rattle.sections.proofs.Laws.Tables.{next-first, next-second, next-third, next-none}
use Rattle.sections.proofs.groups.next_position.Goals as goal

pub returns-in-1 : goal.returns-in-1
returns-in-1 c = next-first c.args.all.now c.args.gone.now c.args.section c.args.dim c.args.old c.in-1.is _ c.group.ensures

pub returns-in-2 : goal.returns-in-2
returns-in-2 c = next-second c.args.all.now c.args.gone.now c.args.section c.args.dim c.args.old c.in-2.is _ _ c.group-in-2.ensures c.group-in-2-2.ensures

pub returns-in-3 : goal.returns-in-3
returns-in-3 c = next-third c.args.all.now c.args.gone.now c.args.section c.args.dim c.args.old c.in-3.is _ _ _ c.group-in-3.ensures c.group-in-3-2.ensures c.group-in-3-3.ensures

pub returns-in_default : goal.returns-in_default
returns-in_default c = next-none c.args.all.now c.args.gone.now c.args.section c.args.dim c.args.old c.in_default.in_default-own.rest.0.0.1 c.in_default.in_default-own.rest.0.1 c.in_default.in_default-own.rest.1
