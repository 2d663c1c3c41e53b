-- `plan_map::put::put_offsets` meets its contract: the offsets before the next stand there. Assumes nothing.
use mathlib.Core.Path.{refl}
use native.Mathlib.Omega.{arith}
use Rattle.plan_tables.specs.Tables.{offset_count}
use Rattle.plan_map.specs.Numbers.{offset_row}
use Rattle.plan_map.specs.Puts.{puts-size, rows_none, rows_next, rows_end, rows_all}
use Rattle.plan_map.proofs.put.put_offsets.Goals as goal

pub loop-offset-init : goal.loop-offset-init
loop-offset-init c = (omega arith, rows_none (offset_row c.args.offsets.now) c.args.out.now 0)

pub put_offset-at-requires : goal.put_offset-at-requires
put_offset-at-requires c = omega (arith, c.requires.1, c.loop-offset-test.true, puts-size c.loop-offset.invariant.1, rows_end (offset_row c.args.offsets.now) c.loop-offset.offset-index c.loop-offset.invariant.1 4 (λ j. refl))

pub loop-offset-smaller : goal.loop-offset-smaller
loop-offset-smaller c = omega (arith, c.requires.0, c.loop-offset-test.true)

pub loop-offset-preserved : goal.loop-offset-preserved
loop-offset-preserved c = (omega (arith, c.loop-offset-test.true), rows_next (offset_row c.args.offsets.now) c.loop-offset.offset-index c.loop-offset.invariant.1 c.put_offset-at.ensures)

pub shape_of-out : goal.shape_of-out
shape_of-out c = puts-size c.loop-offset.invariant.1

pub returns : goal.returns
returns c = rows_all (offset_row c.args.offsets.now) c.loop-offset.offset-index c.loop-offset.invariant.1 offset_count (omega (arith, c.loop-offset.invariant.0, c.loop-offset-test.false))
