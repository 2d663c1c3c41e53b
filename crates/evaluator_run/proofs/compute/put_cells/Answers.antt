-- `evaluator_run::compute::put_cells` meets its contract.
-- Assumes nothing.
use native.Mathlib.Omega.{arith}
use Rattle.evaluator_run.specs.Laws.Computes.{put_full, put-done}
use Rattle.evaluator_run.proofs.compute.put_cells.Goals as goal

pub overflow_mul-cells : goal.overflow_mul-cells
overflow_mul-cells c = omega (arith, c.requires.few)

pub returns-then-out-cells : goal.returns-then-out-cells
returns-then-out-cells c = put_full _ _ _ _ c.if-out-cells.true

pub put_all-requires : goal.put_all-requires
put_all-requires c = record { few = c.requires.few; fits = c.if-out-cells.false; small = c.requires.small }

pub returns : goal.returns
returns c = put-done _ _ _ _ c.if-out-cells.false c.put_all.ensures
