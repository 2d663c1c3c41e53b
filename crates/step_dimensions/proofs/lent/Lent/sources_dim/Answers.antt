-- `step_dimensions::lent::Lent::sources_dim` meets its contract: each source before `place` has a dimension, and `most` is the largest.
-- Assumes nothing.
use native.Mathlib.Omega.{arith}
use Rattle.step_dimensions.specs.Laws.Known.{most-begin, most-next, most-end, known-done}
use Rattle.step_dimensions.proofs.lent.Lent.sources_dim.Goals as goal

pub loop-place-init : goal.loop-place-init
loop-place-init c = most-begin _ _ _ _

pub loop-place-preserved : goal.loop-place-preserved
loop-place-preserved c = most-next _ _ _ _ _ _ _ _ c.loop-place.invariant.0 c.loop-place.invariant.1 (known-done _ _ c.in_ok-known_dim.ensures) c.max-most.ensures

pub returns : goal.returns
returns c = most-end _ _ _ _ _ _ _ c.loop-place.auto.place-end (omega arith) c.loop-place.invariant
