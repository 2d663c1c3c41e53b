-- `context::load::load_blocks` meets its contract: the words of the blocks before k are written.
-- Assumes nothing.
use Prim.Native.Nat.{◌≤◌, ◌-◌}
use mathlib.Core.Path.{◌≡◌}
use Rattle.kinds.specs.Write.{write}
use Rattle.context.specs.Context.{blocks_in}
use Rattle.context.specs.Tables.{words_in}
use Rattle.context.proofs.load.load_blocks.Given as goal

abbrev pub invariant-loop-k : goal.invariant-loop-k
invariant-loop-k l = (l.n ≡ blocks_in l.context) × (l.k ≤ l.n) × (l.blocks ≡ write l.initial.blocks 0 (words_in l.context l.k))

abbrev pub decreases-loop-k : goal.decreases-loop-k
decreases-loop-k l = l.n - l.k
