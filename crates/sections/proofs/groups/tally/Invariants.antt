-- `sections::groups::tally` meets its contract: the table holds what the records before i take.
-- Assumes nothing.
use Prim.Native.Nat.{◌≤◌, ◌-◌}
use lib.ListN.{length}
use Rattle.sections.specs.Groups.{Tallied}
use Rattle.sections.proofs.groups.tally.Given as goal

abbrev pub invariant-loop-i : goal.invariant-loop-i
invariant-loop-i l = (l.i ≤ length l.dims) × (Tallied l.sections l.dims l.i l.groups)

abbrev pub decreases-loop-i : goal.decreases-loop-i
decreases-loop-i l = length l.dims - l.i
