-- `sections::groups::place` meets its contract: the positions before i are the definition's, and the table holds what the records before i take.
-- Assumes nothing.
use Prim.Native.Nat.{◌≤◌, ◌-◌}
use lib.ListN.{length}
use Rattle.sections.specs.Groups.{Tallied}
use Rattle.sections.proofs.Laws.Tables.{PlacedTo}
use Rattle.sections.proofs.groups.place.Given as goal

abbrev pub invariant-loop-i : goal.invariant-loop-i
invariant-loop-i l = (l.i ≤ length l.dims) × (Tallied l.sections l.dims l.i l.gone) × (PlacedTo l.sections l.dims l.initial.positions l.i l.positions)

abbrev pub decreases-loop-i : goal.decreases-loop-i
decreases-loop-i l = length l.dims - l.i
