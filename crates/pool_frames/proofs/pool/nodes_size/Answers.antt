-- `pool_frames::pool::nodes_size` meets its contract: the size of the first k nodes' frames.
-- Assumes nothing.
use Rattle.pool_frames.proofs.Runs.{size_none, size-more, size_small}
use native.Mathlib.Omega.{arith}
use Rattle.pool_frames.proofs.Runs.{size_none, size-more, size_small}
use Rattle.pool_frames.proofs.pool.nodes_size.Goals as goal

pub loop-k-init : goal.loop-k-init
loop-k-init c = (omega arith, size_none _ _)

pub overflow_add-size : goal.overflow_add-size
overflow_add-size c = omega (arith, c.requires, c.loop-k.invariant.0, size_small _ _ _ _ c.loop-k.invariant.1 _ c.node_at.ensures _ c.node_size.ensures _ c.loop-k-test.true c.requires)

pub overflow_add-size-in-loop-k : goal.overflow_add-size-in-loop-k
overflow_add-size-in-loop-k c = omega (arith, c.requires, c.loop-k.invariant.0, size_small _ _ _ _ c.loop-k.invariant.1 _ c.node_at.ensures _ c.node_size.ensures _ c.loop-k-test.true c.requires)

pub loop-k-preserved : goal.loop-k-preserved
loop-k-preserved c = (omega (arith, c.loop-k-test.true), size-more _ _ _ _ c.loop-k.invariant.1 _ c.node_at.ensures _ c.node_size.ensures)
