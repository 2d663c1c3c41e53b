-- `pool_frames::pool::nodes_size` meets its contract: the size of the first k nodes' frames.
-- Assumes nothing.
use Prim.Native.Nat.{◌-◌, ◌≤◌}
use mathlib.Core.Path.{◌≡◌}
use lib.ListN.{length}
use Rattle.pool_frames.specs.Pools.{nodes_bytes}
use Rattle.pool_frames.proofs.pool.nodes_size.Given as goal

abbrev pub invariant-loop-k : goal.invariant-loop-k
invariant-loop-k l = (l.k ≤ l.n) × (l.size ≡ length (nodes_bytes l.nodes l.literals l.k))

abbrev pub decreases-loop-k : goal.decreases-loop-k
decreases-loop-k l = l.n - l.k
