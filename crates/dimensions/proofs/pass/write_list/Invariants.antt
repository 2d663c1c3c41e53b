-- `dimensions::pass::write_list` meets its contract: the records before k are written, where they have their dimensions.
-- Assumes nothing.
use Rattle.step_dimensions.specs.Answers.{given}
use Rattle.dimensions.specs.Answers.{WritesFront}
use Rattle.dimensions.proofs.pass.write_list.Given as goal

abbrev pub invariant-loop-k : goal.invariant-loop-k
invariant-loop-k l = WritesFront (given l.lent) l.initial.temporaries l.temporaries l.initial.list l.list l.k
