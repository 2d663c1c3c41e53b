-- What the loop of `records::write_positions` keeps: the positions written so far.
-- Assumes nothing.
use Rattle.std.proofs.Common.{◌≡◌}
use Rattle.records.specs.Laws.Lists.{upto}
use Rattle.records.proofs.write_positions.Given as goal

abbrev pub invariant-loop-i : goal.invariant-loop-i
invariant-loop-i l = l.records ≡ upto l.i l.positions l.initial.records
