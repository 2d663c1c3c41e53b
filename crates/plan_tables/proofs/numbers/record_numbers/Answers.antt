-- `plan_tables::numbers::record_numbers` meets its contract: the numbers of the records before k are listed. Assumes nothing.
use native.Mathlib.Omega.{arith}
use Rattle.plan_tables.specs.Listed.{listed-none}
use Rattle.plan_tables.specs.Sectioned.{numbers-room, numbers-next, numbers-end}
use Rattle.plan_tables.proofs.numbers.record_numbers.Goals as goal

pub loop-k-init : goal.loop-k-init
loop-k-init c = (omega arith, listed-none c.args.numbers.now)

pub offset_bounds-sections-k : goal.offset_bounds-sections-k
offset_bounds-sections-k c = omega (arith, c.requires.0, c.requires.1, c.loop-k-test.true)

pub bounds-sections-k : goal.bounds-sections-k
bounds-sections-k c = omega (arith, c.requires.0, c.requires.1, c.loop-k-test.true)

pub put_number-n-requires : goal.put_number-n-requires
put_number-n-requires c = (numbers-room c.args.from c.args.to c.args.sections.now c.loop-k.invariant.1 (omega (arith, c.requires.0, c.requires.1, c.loop-k-test.true)), omega (arith, c.requires.1, c.loop-k-test.true))

pub loop-k-smaller : goal.loop-k-smaller
loop-k-smaller c = omega (arith, c.requires.0, c.requires.1, c.loop-k-test.true)

pub loop-k-preserved : goal.loop-k-preserved
loop-k-preserved c = (omega (arith, c.loop-k-test.true), numbers-next c.args.from c.args.to c.args.sections.now c.loop-k.invariant.1 (omega (arith, c.requires.0, c.requires.1, c.loop-k-test.true)) c.put_number-n.ensures)

pub returns : goal.returns
returns c = numbers-end c.args.from c.args.to c.args.sections.now c.args.count c.loop-k.k c.loop-k.invariant.1 (omega (arith, c.loop-k-test.false, c.loop-k.invariant.0))
