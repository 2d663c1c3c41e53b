-- `frames::read::fill` meets its contract. The loop's invariant: what is left, read after what the tables hold, is the whole.
-- Assumes nothing.
use Prim.Native.Nat.{◌-◌}
use lib.ListN.{length}
use Rattle.frames.specs.Tables.{tables}
use Rattle.frames.proofs.Loops.{Filled}
use Rattle.frames.proofs.read.fill.Given as goal

abbrev pub invariant-loop-at : goal.invariant-loop-at
invariant-loop-at l = Filled l.s (tables l.nodes l.literals l.expressions l.requests) l.c l.at

abbrev pub decreases-loop-at : goal.decreases-loop-at
decreases-loop-at l = length l.s - l.at
