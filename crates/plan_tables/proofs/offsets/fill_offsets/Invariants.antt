-- `plan_tables::offsets::fill_offsets` meets its contract: the offsets of the sections before s stand there. Assumes nothing.
use Prim.Native.Nat.{◌-◌}
use Rattle.sections.specs.Sections.{section_count}
use Rattle.plan_tables.proofs.Summed.{Reached}
use Rattle.plan_tables.proofs.offsets.fill_offsets.Given as goal

abbrev pub invariant-loop-s : goal.invariant-loop-s
invariant-loop-s l = Reached l.n_bits l.n_bits_ext l.widths l.initial.offsets l.s l.at l.offsets

abbrev pub decreases-loop-s : goal.decreases-loop-s
decreases-loop-s l = section_count - l.s
