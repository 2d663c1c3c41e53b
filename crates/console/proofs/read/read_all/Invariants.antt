-- `console::read::read_all` meets its contract: reading stands somewhere after the bytes that were read.
-- Assumes nothing.
use Prim.Native.Nat.{◌-◌}
use mathlib.Core.Path.{◌≡◌}
use lib.ListN.{length}
use Rattle.frames.specs.Tables.{tables}
use Rattle.console.proofs.Fed.{Reached}
use Rattle.console.proofs.read.read_all.Given as goal

abbrev pub invariant-loop-turn : goal.invariant-loop-turn
invariant-loop-turn g l = (length l.chunk ≡ 65536) × Reached l.line l.place (tables l.nodes l.literals l.expressions l.requests)

abbrev pub decreases-loop-turn : goal.decreases-loop-turn
decreases-loop-turn g l = 65536 - l.turn
