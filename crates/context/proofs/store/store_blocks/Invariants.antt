-- `context::store::store_blocks` meets its contract: what is left, written after what stands, is the whole.
-- Assumes nothing.
use Prim.Native.Nat.{◌-◌}
use Rattle.context.proofs.Stores.{Left}
use Rattle.context.proofs.store.store_blocks.Given as goal

abbrev pub invariant-loop-k : goal.invariant-loop-k
invariant-loop-k l = Left l.initial.context l.blocks l.from l.to l.context l.k

abbrev pub decreases-loop-k : goal.decreases-loop-k
decreases-loop-k l = l.to - l.k
