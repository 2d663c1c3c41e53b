-- `readable::block::block_end` meets its contract. The invariant: no step that was passed writes an exp. The measure is what is left.
-- Assumes nothing.
use Prim.Native.Nat.{ℕ, ◌-◌, ◌≤◌, ◌<◌}
use mathlib.Core.Path.{◌≡◌}
use Rattle.kinds.specs.KindBytes as kind
use Rattle.readable.specs.Blocks.{writes}
use Rattle.readable.proofs.block.block_end.Given as goal

abbrev pub invariant-loop-k : goal.invariant-loop-k
invariant-loop-k l = (l.from ≤ l.k) × (l.k < l.steps) × ((j : ℕ) → j < l.k → l.from ≤ j → writes l.list j ≡ kind.exp → ⊥)

abbrev pub decreases-loop-k : goal.decreases-loop-k
decreases-loop-k l = l.steps - l.k
