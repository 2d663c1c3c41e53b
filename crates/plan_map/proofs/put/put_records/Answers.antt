-- `plan_map::put::put_records` meets its contract: the records before k stand there. Assumes nothing.
use mathlib.Core.Path.{refl}
use native.Mathlib.Omega.{arith}
use Rattle.plan_map.specs.Numbers.{record_row}
use Rattle.plan_map.specs.Puts.{puts-size, rows_none, rows_next, rows_end, rows_all}
use Rattle.plan_map.proofs.put.put_records.Goals as goal

pub loop-k-init : goal.loop-k-init
loop-k-init c = (omega arith, rows_none (record_row c.args.sections.now c.args.dims.now c.args.positions.now) c.args.out.now c.args.from)

pub offset_bounds-sections-k : goal.offset_bounds-sections-k
offset_bounds-sections-k c = omega (arith, c.requires.0, c.loop-k-test.true)

pub bounds-sections-k : goal.bounds-sections-k
bounds-sections-k c = omega (arith, c.requires.0, c.loop-k-test.true)

pub offset_bounds-dims-k : goal.offset_bounds-dims-k
offset_bounds-dims-k c = omega (arith, c.requires.0, c.loop-k-test.true)

pub bounds-dims-k : goal.bounds-dims-k
bounds-dims-k c = omega (arith, c.requires.0, c.loop-k-test.true)

pub offset_bounds-positions-k : goal.offset_bounds-positions-k
offset_bounds-positions-k c = omega (arith, c.requires.0, c.loop-k-test.true)

pub bounds-positions-k : goal.bounds-positions-k
bounds-positions-k c = omega (arith, c.requires.0, c.loop-k-test.true)

pub put_record-at-requires : goal.put_record-at-requires
put_record-at-requires c = omega (arith, c.requires.1, c.loop-k-test.true, puts-size c.loop-k.invariant.1, rows_end (record_row c.args.sections.now c.args.dims.now c.args.positions.now) c.loop-k.k c.loop-k.invariant.1 3 (λ j. refl))

pub loop-k-smaller : goal.loop-k-smaller
loop-k-smaller c = omega (arith, c.requires.0, c.loop-k-test.true)

pub loop-k-preserved : goal.loop-k-preserved
loop-k-preserved c = (omega (arith, c.loop-k-test.true), rows_next (record_row c.args.sections.now c.args.dims.now c.args.positions.now) c.loop-k.k c.loop-k.invariant.1 c.put_record-at.ensures)

pub shape_of-out : goal.shape_of-out
shape_of-out c = puts-size c.loop-k.invariant.1

pub returns : goal.returns
returns c = rows_all (record_row c.args.sections.now c.args.dims.now c.args.positions.now) c.loop-k.k c.loop-k.invariant.1 c.args.n (omega (arith, c.loop-k.invariant.0, c.loop-k-test.false))
