-- `step_dimensions::lent::Lent::put_dims` meets its contract: the dimensions of the sources before `place` are written.
-- Assumes nothing.
use mathlib.Core.Path.{◌≡◌}
use Rattle.step_dimensions.specs.Answers.{given}
use Rattle.step_dimensions.specs.Known.{put_dims, most_put}
use Rattle.step_dimensions.proofs.lent.Lent.put_dims.Given as goal

abbrev pub invariant-loop-place : goal.invariant-loop-place
invariant-loop-place l = (l.list ≡ put_dims (given l.self) l.temporaries l.initial.list l.at l.place) × (l.most ≡ most_put (given l.self) l.temporaries l.initial.list l.at l.place)
