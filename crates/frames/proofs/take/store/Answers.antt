-- `frames::take::store` meets its contract.
-- Assumes nothing.
use native.Mathlib.Omega.{arith}
use Rattle.frames.specs.Tables.{Room}
use Rattle.frames.proofs.take.store.Goals as goal

pub put_node-requires : goal.put_node-requires
unfolding Room
put_node-requires c = grind arith

pub put_expression-requires : goal.put_expression-requires
unfolding Room
put_expression-requires c = grind arith

pub put_request-requires : goal.put_request-requires
unfolding Room
put_request-requires c = grind arith
