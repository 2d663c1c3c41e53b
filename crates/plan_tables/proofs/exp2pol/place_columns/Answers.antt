-- `plan_tables::exp2pol::place_columns` meets its contract: the records of the columns from k on stand there. Assumes nothing.
use Prim.Native.Nat.{◌-◌}
use native.Mathlib.Omega.{arith}
use Rattle.plan_tables.proofs.Placed.{places-begin, place-below, places-next, places-all}
use Rattle.plan_tables.proofs.exp2pol.place_columns.Goals as goal

pub loop-k-init : goal.loop-k-init
loop-k-init c = (omega arith, λ n a. places-begin a c.args.temporaries.now)

pub offset_bounds-columns-k : goal.offset_bounds-columns-k
offset_bounds-columns-k c = omega (arith, c.requires.1.few, c.loop-k.invariant.0, c.loop-k-test.true)

pub bounds-columns-k : goal.bounds-columns-k
bounds-columns-k c = omega (arith, c.requires.1.few, c.loop-k.invariant.0, c.loop-k-test.true)

pub overflow_cast-e : goal.overflow_cast-e
overflow_cast-e c = omega (arith, place-below c.requires.1 c.args.temporaries.now (c.loop-k.invariant.1 c.requires.0 c.requires.1) c.loop-k.invariant.0 (c.loop-k.k - 1) (omega (arith, c.loop-k-test.true)))

pub offset_bounds-temporaries-k : goal.offset_bounds-temporaries-k
offset_bounds-temporaries-k c = omega (arith, c.requires.1.few, c.loop-k.invariant.0, c.loop-k-test.true)

pub bounds-temporaries-k : goal.bounds-temporaries-k
bounds-temporaries-k c = omega (arith, c.requires.1.few, c.loop-k.invariant.0, c.loop-k-test.true)

pub offset_bounds-exp2pol-e : goal.offset_bounds-exp2pol-e
offset_bounds-exp2pol-e c = omega (arith, place-below c.requires.1 c.args.temporaries.now (c.loop-k.invariant.1 c.requires.0 c.requires.1) c.loop-k.invariant.0 (c.loop-k.k - 1) (omega (arith, c.loop-k-test.true)))

pub bounds-exp2pol-e : goal.bounds-exp2pol-e
bounds-exp2pol-e c = place-below c.requires.1 c.args.temporaries.now (c.loop-k.invariant.1 c.requires.0 c.requires.1) c.loop-k.invariant.0 (c.loop-k.k - 1) (omega (arith, c.loop-k-test.true))

pub loop-k-smaller : goal.loop-k-smaller
loop-k-smaller c = omega (arith, c.requires.1.few, c.loop-k.invariant.0, c.loop-k-test.true)

pub loop-k-preserved : goal.loop-k-preserved
loop-k-preserved c = (omega (arith, c.loop-k.invariant.0), λ n a. places-next a c.args.temporaries.now (c.loop-k.invariant.1 n a) c.loop-k.invariant.0 (c.loop-k.k - 1) (omega (arith, c.loop-k-test.true)))

pub returns : goal.returns
returns c = λ n a. places-all a c.args.temporaries.now (c.loop-k.invariant.1 n a) c.loop-k.invariant.0 (omega (arith, c.loop-k-test.false))
