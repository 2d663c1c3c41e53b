-- `frames::read::scan` meets its contract. The loop's invariant: what is left, counted after what is counted, is the whole.
-- Assumes nothing.
use Prim.Native.Nat.{◌-◌}
use lib.ListN.{length}
use Rattle.frames.proofs.Loops.{Left}
use Rattle.frames.proofs.read.scan.Given as goal

abbrev pub invariant-loop-at : goal.invariant-loop-at
invariant-loop-at l = Left l.s l.c l.at

abbrev pub decreases-loop-at : goal.decreases-loop-at
decreases-loop-at l = length l.s - l.at
