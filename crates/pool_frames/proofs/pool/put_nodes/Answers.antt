-- `pool_frames::pool::put_nodes` meets its contract: the frames of the first k nodes stand in `out`.
-- Assumes nothing.
use Rattle.pool_frames.proofs.Runs.{bytes-none, next_fits, bytes-more}
use native.Mathlib.Omega.{arith}
use Rattle.pool_frames.proofs.Runs.{bytes-none, next_fits, bytes-more}
use Rattle.pool_frames.proofs.pool.put_nodes.Goals as goal

pub loop-k-init : goal.loop-k-init
loop-k-init c = (omega arith, bytes-none _ _ _)

pub put_node-at-requires : goal.put_node-at-requires
put_node-at-requires c = next_fits _ _ _ _ _ _ c.loop-k.invariant.1 c.loop-k-test.true c.requires _ c.node_at.ensures

pub loop-k-preserved : goal.loop-k-preserved
loop-k-preserved c = (omega (arith, c.loop-k-test.true), bytes-more _ _ _ _ _ _ c.loop-k.invariant.1 c.loop-k-test.true _ c.node_at.ensures _ c.put_node-at.ensures)
