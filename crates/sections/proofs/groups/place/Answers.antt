-- `sections::groups::place` meets its contract: the positions before i are the definition's, and the table holds what the records before i take.
-- Assumes nothing.
use native.Mathlib.Omega.{arith}
use mathlib.Core.Path.{refl, ◌∙◌}
use Rattle.sections.proofs.Laws.Tables.{tally-begin, tally-next, tallied-small, all_small, place-begin, place-next, place_end, position_is}
use Rattle.sections.proofs.groups.place.Goals as goal

pub loop-i-init : goal.loop-i-init
loop-i-init c = (omega arith, tally-begin _ _ _ refl, place-begin _ _ _)

pub next_position-requires : goal.next_position-requires
next_position-requires c = (c.requires.0.known c.loop-i.i (omega (arith, c.requires.0.paired)), all_small _ _ _ c.requires.0 c.requires.2, tallied-small _ _ _ _ c.loop-i.invariant.1 (omega (arith, c.requires.0.few)))

pub add_record-requires : goal.add_record-requires
add_record-requires c = (c.requires.0.known c.loop-i.i (omega (arith, c.requires.0.paired)), tallied-small _ _ _ _ c.loop-i.invariant.1 (omega (arith, c.requires.0.few)))

pub loop-i-preserved : goal.loop-i-preserved
loop-i-preserved c = (omega (arith, c.loop-i-test.true), tally-next _ _ _ _ _ c.loop-i.invariant.1 c.add_record.ensures (c.requires.0.known c.loop-i.i (omega (arith, c.requires.0.paired, c.loop-i-test.true))), place-next _ _ _ _ _ _ c.loop-i.invariant.2 (c.next_position.ensures ∙ position_is _ _ _ _ _ c.requires.2 c.loop-i.invariant.1 c.loop-i-test.true (c.requires.0.known c.loop-i.i (omega (arith, c.requires.0.paired, c.loop-i-test.true))) _) (omega (arith, c.loop-i.invariant.2.long, c.requires.1, c.loop-i-test.true)))

pub shape_of-positions : goal.shape_of-positions
shape_of-positions c = c.loop-i.invariant.2.long

pub returns : goal.returns
returns c = place_end _ _ _ _ _ c.loop-i.invariant.2 (omega (arith, c.requires.1, c.loop-i-test.false))
