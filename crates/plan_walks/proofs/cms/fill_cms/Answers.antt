-- `plan_walks::cms::fill_cms` meets its contract (proofs/Fixes.antt). Assumes nothing.
use lib.ListN.{take}
use Rattle.plan_walks.proofs.Fixes.{cms_in_n, cms_in_2ns}
use Rattle.plan_walks.proofs.cms.fill_cms.Goals as goal

pub record_numbers-requires : goal.record_numbers-requires
record_numbers-requires c = (c.requires.size, c.requires.few)

pub returns-then-in_n : goal.returns-then-in_n
returns-then-in_n c = cms_in_n c.args.in_n (take c.args.records c.args.sections.now) c.if-in_n.true c.record_numbers.ensures

pub record_numbers-requires-2 : goal.record_numbers-requires-2
record_numbers-requires-2 c = (c.requires.size, c.requires.few)

pub returns : goal.returns
returns c = cms_in_2ns c.args.in_n (take c.args.records c.args.sections.now) c.if-in_n.false c.record_numbers-2.ensures
