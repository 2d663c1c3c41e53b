-- `constraint_pieces::mark::mark_members` meets its contract: the members from the next on are left to mark.
-- Assumes nothing.
use native.Mathlib.Omega.{arith}
use Rattle.constraint_pieces.proofs.Turns.{none-marked, one-marked, all-marked}
use Rattle.constraint_pieces.proofs.mark.mark_members.Goals as goal

pub loop-e-init : goal.loop-e-init
loop-e-init c = (omega arith, none-marked _ _)

pub mark_one-requires : goal.mark_one-requires
mark_one-requires c = c.requires _ c.loop-e-test.true

pub loop-e-smaller : goal.loop-e-smaller
loop-e-smaller c = omega (arith, c.loop-e-test.true)

pub loop-e-preserved : goal.loop-e-preserved
loop-e-preserved c = (omega (arith, c.loop-e-test.true), one-marked _ _ _ _ _ c.loop-e.invariant.1 c.loop-e-test.true c.mark_one.ensures)

pub returns : goal.returns
returns c = all-marked _ _ _ _ c.loop-e.invariant.1 c.loop-e.invariant.0 c.loop-e-test.false
