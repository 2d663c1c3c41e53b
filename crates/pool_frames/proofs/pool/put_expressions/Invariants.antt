-- `pool_frames::pool::put_expressions` meets its contract: the frames of the first k expressions stand in `out`.
-- Assumes nothing.
use Prim.Native.Nat.{◌-◌, ◌≤◌}
use Rattle.pool_frames.specs.Frames.{Puts}
use Rattle.pool_frames.specs.Pools.{expressions_bytes}
use Rattle.pool_frames.proofs.pool.put_expressions.Given as goal

abbrev pub invariant-loop-k : goal.invariant-loop-k
invariant-loop-k l = (l.k ≤ l.m) × Puts l.initial.out l.from (expressions_bytes l.expressions l.k) l.out l.at

abbrev pub decreases-loop-k : goal.decreases-loop-k
decreases-loop-k l = l.m - l.k
