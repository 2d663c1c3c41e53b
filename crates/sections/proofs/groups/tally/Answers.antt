-- `sections::groups::tally` meets its contract: the table holds what the records before i take.
-- Assumes nothing.
use native.Mathlib.Omega.{arith}
use Rattle.sections.proofs.Laws.Tables.{tally-begin, tally-next, tallied-small, tally-end}
use Rattle.sections.proofs.groups.tally.Goals as goal

pub loop-i-init : goal.loop-i-init
loop-i-init c = (omega arith, tally-begin _ _ _ c.requires.1)

pub add_record-requires : goal.add_record-requires
add_record-requires c = (c.requires.0.known c.loop-i.i (omega (arith, c.requires.0.paired)), tallied-small _ _ _ _ c.loop-i.invariant.1 (omega (arith, c.requires.0.few)))

pub loop-i-preserved : goal.loop-i-preserved
loop-i-preserved c = (omega arith, tally-next _ _ _ _ _ c.loop-i.invariant.1 c.add_record.ensures (c.requires.0.known c.loop-i.i (omega (arith, c.requires.0.paired))))

pub returns : goal.returns
returns c = tally-end _ _ _ _ c.loop-i.invariant.1 c.loop-i.invariant.0 c.loop-i-test.false
