-- `fixing::temporaries::give_list` meets its contract: the tables are those of the records before k.
-- Assumes nothing.
use mathlib.Core.Path.{◌≡◌}
use Rattle.kinds.specs.Steps.{steps_of}
use Rattle.fixing.specs.Machine.{tables, give_records}
use Rattle.fixing.proofs.temporaries.give_list.Given as goal

abbrev pub invariant-loop-k : goal.invariant-loop-k
invariant-loop-k l = tables l.plain l.primed l.after ≡ give_records l.rules (steps_of l.list l.k) (tables l.initial.plain l.initial.primed l.next)
