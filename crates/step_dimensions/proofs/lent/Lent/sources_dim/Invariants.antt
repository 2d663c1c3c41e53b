-- `step_dimensions::lent::Lent::sources_dim` meets its contract: each source before `place` has a dimension, and `most` is the largest.
-- Assumes nothing.
use mathlib.Core.Path.{◌≡◌}
use Rattle.step_dimensions.specs.Answers.{given}
use Rattle.step_dimensions.specs.Known.{AllKnown, most_of}
use Rattle.step_dimensions.proofs.lent.Lent.sources_dim.Given as goal

abbrev pub invariant-loop-place : goal.invariant-loop-place
invariant-loop-place l = AllKnown (given l.self) l.temporaries l.list l.at l.place × (l.most ≡ most_of (given l.self) l.temporaries l.list l.at l.place)
