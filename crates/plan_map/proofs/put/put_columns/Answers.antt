-- `plan_map::put::put_columns` meets its contract: the temporary columns before k stand there. Assumes nothing.
use mathlib.Core.Path.{refl}
use native.Mathlib.Omega.{arith}
use Rattle.plan_map.specs.Numbers.{column_row}
use Rattle.plan_map.specs.Puts.{puts-size, rows_none, rows_next, rows_end, rows_all}
use Rattle.plan_map.proofs.put.put_columns.Goals as goal

pub loop-k-init : goal.loop-k-init
loop-k-init c = (omega arith, rows_none (column_row c.args.columns.now c.args.records.now) c.args.out.now c.args.from)

pub offset_bounds-columns-k : goal.offset_bounds-columns-k
offset_bounds-columns-k c = omega (arith, c.requires.0, c.loop-k-test.true)

pub bounds-columns-k : goal.bounds-columns-k
bounds-columns-k c = omega (arith, c.requires.0, c.loop-k-test.true)

pub offset_bounds-records-k : goal.offset_bounds-records-k
offset_bounds-records-k c = omega (arith, c.requires.0, c.loop-k-test.true)

pub bounds-records-k : goal.bounds-records-k
bounds-records-k c = omega (arith, c.requires.0, c.loop-k-test.true)

pub put_pair-at-requires : goal.put_pair-at-requires
put_pair-at-requires c = omega (arith, c.requires.1, c.loop-k-test.true, puts-size c.loop-k.invariant.1, rows_end (column_row c.args.columns.now c.args.records.now) c.loop-k.k c.loop-k.invariant.1 2 (λ j. refl))

pub loop-k-smaller : goal.loop-k-smaller
loop-k-smaller c = omega (arith, c.requires.0, c.loop-k-test.true)

pub loop-k-preserved : goal.loop-k-preserved
loop-k-preserved c = (omega (arith, c.loop-k-test.true), rows_next (column_row c.args.columns.now c.args.records.now) c.loop-k.k c.loop-k.invariant.1 c.put_pair-at.ensures)

pub shape_of-out : goal.shape_of-out
shape_of-out c = puts-size c.loop-k.invariant.1

pub returns : goal.returns
returns c = rows_all (column_row c.args.columns.now c.args.records.now) c.loop-k.k c.loop-k.invariant.1 c.args.n (omega (arith, c.loop-k.invariant.0, c.loop-k-test.false))
