-- `plan_map::put::put_numbers` meets its contract: the numbers before the next stand there. Assumes nothing.
use native.Mathlib.Omega.{arith}
use lib.ListN.{take}
use Rattle.std.proofs.lemmas.List.{length-take-le}
use Rattle.plan_map.specs.Puts.{puts-size}
use Rattle.plan_map.proofs.Putting.{numbers-none, number-next, numbers-all}
use Rattle.plan_map.proofs.put.put_numbers.Goals as goal

pub loop-number-init : goal.loop-number-init
loop-number-init c = (omega arith, omega arith, numbers-none (take c.args.n c.args.numbers.now) c.args.out.now c.args.from)

pub put_u16-requires : goal.put_u16-requires
put_u16-requires c = omega (arith, length-take-le c.args.n c.args.numbers.now c.requires.0, c.requires.1, c.loop-number-test.true, puts-size c.loop-number.invariant.2, c.loop-number.invariant.1)

pub overflow_add-at : goal.overflow_add-at
overflow_add-at c = omega (arith, length-take-le c.args.n c.args.numbers.now c.requires.0, c.requires.1, c.loop-number-test.true, c.loop-number.invariant.1)

pub loop-number-smaller : goal.loop-number-smaller
loop-number-smaller c = omega (arith, length-take-le c.args.n c.args.numbers.now c.requires.0, c.loop-number-test.true)

pub loop-number-preserved : goal.loop-number-preserved
loop-number-preserved c = (omega (arith, length-take-le c.args.n c.args.numbers.now c.requires.0, c.loop-number-test.true), omega (arith, c.loop-number.invariant.1), number-next (take c.args.n c.args.numbers.now) c.loop-number.number-index c.loop-number-test.true c.loop-number.invariant.2 c.put_u16.ensures)

pub shape_of-out : goal.shape_of-out
shape_of-out c = puts-size c.loop-number.invariant.2

pub returns : goal.returns
returns c = numbers-all (take c.args.n c.args.numbers.now) c.loop-number.number-index c.loop-number.invariant.2 c.loop-number-test.false
