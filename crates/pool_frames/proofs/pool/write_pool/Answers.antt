-- `pool_frames::pool::write_pool` meets its contract.
-- Assumes nothing.
use native.Mathlib.Omega.{arith}
use Rattle.pool_frames.proofs.Runs.{size_fits, pool-full, pool-written}
use Rattle.pool_frames.proofs.pool.write_pool.Goals as goal

pub overflow_add-size : goal.overflow_add-size
overflow_add-size c = omega (arith, c.requires.nodes, c.requires.expressions, size_fits _ _ _ _ c.nodes_size.ensures c.requires.nodes)

pub returns-then-out-size : goal.returns-then-out-size
returns-then-out-size c = pool-full _ _ _ _ _ _ _ c.nodes_size.ensures c.if-out-size.true

pub returns : goal.returns
returns c = pool-written _ _ _ _ _ _ _ c.nodes_size.ensures _ _ c.if-out-size.false c.put_nodes-end.ensures c.put_expressions.ensures
