-- `plan_tables::offsets::fill_offsets` meets its contract: the offsets of the sections before s stand there. Assumes nothing.
use native.Mathlib.Omega.{arith}
use Rattle.plan_tables.proofs.Summed.{reached_none, reached_next, reached_all}
use Rattle.plan_tables.proofs.offsets.fill_offsets.Goals as goal

pub loop-s-init : goal.loop-s-init
loop-s-init c = reached_none

pub offset_bounds-offsets-s : goal.offset_bounds-offsets-s
offset_bounds-offsets-s c = omega (arith, c.loop-s-test.true, c.loop-s.invariant.inside)

pub bounds-offsets-s : goal.bounds-offsets-s
bounds-offsets-s c = omega (arith, c.loop-s-test.true, c.loop-s.invariant.inside)

pub section_rows-rows-requires : goal.section_rows-rows-requires
section_rows-rows-requires c = c.requires.0

pub offset_bounds-widths-s : goal.offset_bounds-widths-s
offset_bounds-widths-s c = omega (arith, c.loop-s-test.true, c.loop-s.invariant.inside)

pub bounds-widths-s : goal.bounds-widths-s
bounds-widths-s c = omega (arith, c.loop-s-test.true, c.loop-s.invariant.inside)

pub section_size-at-requires : goal.section_size-at-requires
section_size-at-requires c = c.section_rows-rows.ensures.most

pub overflow_add-at : goal.overflow_add-at
overflow_add-at c = omega (arith, c.loop-s.invariant.most, c.section_size-at.ensures.most, c.loop-s-test.true)

pub loop-s-smaller : goal.loop-s-smaller
loop-s-smaller c = omega (arith, c.loop-s-test.true, c.loop-s.invariant.inside)

pub loop-s-preserved : goal.loop-s-preserved
loop-s-preserved c = reached_next c.loop-s.invariant c.loop-s-test.true c.section_rows-rows.ensures c.section_size-at.ensures

pub bounds-offsets-11 : goal.bounds-offsets-11
bounds-offsets-11 c = omega arith

pub returns : goal.returns
returns c = reached_all c.loop-s.invariant c.loop-s-test.false c.requires.1
