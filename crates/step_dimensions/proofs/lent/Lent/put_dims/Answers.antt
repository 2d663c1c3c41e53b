-- `step_dimensions::lent::Lent::put_dims` meets its contract: the dimensions of the sources before `place` are written.
-- Assumes nothing.
use mathlib.Core.Path.{◌∙◌}
use native.Mathlib.Omega.{arith}
use Rattle.step_dimensions.specs.Laws.Known.{known-or}
use Rattle.step_dimensions.specs.Laws.Written.{put-begin, put_next, put-end}
use Rattle.step_dimensions.proofs.lent.Lent.put_dims.Goals as goal

pub loop-place-init : goal.loop-place-init
loop-place-init c = put-begin _ _ _ _

pub loop-place-preserved : goal.loop-place-preserved
loop-place-preserved c = put_next _ _ _ _ _ _ _ _ _ _ c.loop-place.invariant.0 c.loop-place.invariant.1 (c.unwrap_or-dim.ensures ∙ known-or _ _ c.known_dim.ensures) c.put_u16.ensures c.max-most.ensures

pub returns : goal.returns
returns c = put-end _ _ _ _ _ _ _ _ c.loop-place.auto.place-end (omega arith) c.loop-place.invariant
