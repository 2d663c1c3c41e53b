-- `plan_tables::offsets::section_rows` meets its contract. Assumes nothing.
use Rattle.plan_tables.proofs.Summed.{rows-plain, rows-extended}
use Rattle.plan_tables.proofs.offsets.section_rows.Goals as goal

pub returns-then-section : goal.returns-then-section
returns-then-section c = rows-plain c.args.section c.requires c.if-section.true

pub returns : goal.returns
returns c = rows-extended c.args.section c.requires c.if-section.false
