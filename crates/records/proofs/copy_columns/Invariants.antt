-- What the loop of `records::copy_columns` keeps: the columns copied so far.
-- Assumes nothing.
use Rattle.std.proofs.Common.{◌≡◌}
use Rattle.records.specs.Records.{sections_of, dims_of, positions_of}
use Rattle.records.specs.Laws.Lists.{fill_to}
use Rattle.records.proofs.copy_columns.Given as goal

abbrev pub invariant-loop-i : goal.invariant-loop-i
invariant-loop-i l = record {
  sections_are : l.sections ≡ fill_to l.i (sections_of l.records) l.initial.sections;
  dims_are : l.dims ≡ fill_to l.i (dims_of l.records) l.initial.dims;
  positions_are : l.positions ≡ fill_to l.i (positions_of l.records) l.initial.positions;
}
