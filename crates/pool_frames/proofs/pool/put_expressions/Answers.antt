-- `pool_frames::pool::put_expressions` meets its contract: the frames of the first k expressions stand in `out`.
-- Assumes nothing.
use Rattle.pool_frames.proofs.Runs.{written_none, another_fits, written-more}
use native.Mathlib.Omega.{arith}
use Rattle.pool_frames.proofs.Runs.{written_none, another_fits, written-more}
use Rattle.pool_frames.proofs.pool.put_expressions.Goals as goal

pub loop-k-init : goal.loop-k-init
loop-k-init c = (omega arith, written_none _ _ _)

pub put_expression-at-requires : goal.put_expression-at-requires
put_expression-at-requires c = another_fits _ _ _ _ _ c.loop-k.invariant.1 _ c.loop-k-test.true c.requires.room

pub loop-k-preserved : goal.loop-k-preserved
loop-k-preserved c = (omega (arith, c.loop-k-test.true), written-more _ _ _ _ _ c.loop-k.invariant.1 _ c.expression_at.ensures _ c.put_expression-at.ensures)
