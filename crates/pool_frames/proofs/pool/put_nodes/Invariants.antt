-- `pool_frames::pool::put_nodes` meets its contract: the frames of the first k nodes stand in `out`.
-- Assumes nothing.
use Prim.Native.Nat.{◌-◌, ◌≤◌}
use Rattle.pool_frames.specs.Frames.{Puts}
use Rattle.pool_frames.specs.Pools.{nodes_bytes}
use Rattle.pool_frames.proofs.pool.put_nodes.Given as goal

abbrev pub invariant-loop-k : goal.invariant-loop-k
invariant-loop-k l = (l.k ≤ l.n) × Puts l.initial.out 0 (nodes_bytes l.nodes l.literals l.k) l.out l.at

abbrev pub decreases-loop-k : goal.decreases-loop-k
decreases-loop-k l = l.n - l.k
