-- `plan_tables::numbers::put_number` meets its contract. Assumes nothing.
use Rattle.plan_tables.specs.Sectioned.{put-below, put-above, put_in}
use Rattle.plan_tables.proofs.numbers.put_number.Goals as goal

pub returns-then-section-from : goal.returns-then-section-from
returns-then-section-from c = put-below c.args.from c.args.to c.args.section c.args.numbers.now c.args.n c.args.k c.if-section-from.true

pub returns-then-to-section : goal.returns-then-to-section
returns-then-to-section c = put-above c.args.from c.args.to c.args.section c.args.numbers.now c.args.n c.args.k c.if-to-section.true

pub returns : goal.returns
returns c = put_in c.args.from c.args.to c.args.section c.args.numbers.now c.args.n c.args.k c.if-section-from.false c.if-to-section.false
