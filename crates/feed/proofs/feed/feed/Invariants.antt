-- `feed::feed::feed` meets its contract. The loop's invariant: the bytes passed are fed.
-- Assumes nothing.
use Prim.Native.Nat.{◌-◌}
use lib.ListN.{length}
use Rattle.frames.specs.Tables.{tables}
use Rattle.feed.proofs.Feeds.{Through}
use Rattle.feed.proofs.feed.feed.Given as goal

abbrev pub invariant-loop-b : goal.invariant-loop-b
invariant-loop-b l = Through l.more l.initial.line l.initial.at (tables l.initial.nodes l.initial.literals l.initial.expressions l.initial.requests) l.line l.at (tables l.nodes l.literals l.expressions l.requests) l.b-index

abbrev pub decreases-loop-b : goal.decreases-loop-b
decreases-loop-b l = length l.more - l.b-index
