-- `dimensions::pass::decide_list` meets its contract: the records before k have their dimensions, and left the temporaries as they stand.
-- Assumes nothing.
use mathlib.Core.Path.{◌≡◌}
use Rattle.meaning.specs.Refusals.{done}
use Rattle.kinds.specs.Steps.{steps_of}
use Rattle.step_dimensions.specs.Answers.{given}
use Rattle.dimensions.specs.Answers.{list_to}
use Rattle.dimensions.proofs.pass.decide_list.Given as goal

abbrev pub invariant-loop-k : goal.invariant-loop-k
invariant-loop-k l = list_to (given l.lent) l.initial.temporaries (steps_of l.list l.k) ≡ done l.temporaries
