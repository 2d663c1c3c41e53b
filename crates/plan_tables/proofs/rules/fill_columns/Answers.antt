-- `plan_tables::rules::fill_columns` meets its contract: the rules of the columns from k on stand there. Assumes nothing.
use Prim.Native.Nat.{◌-◌}
use mathlib.Core.Path.{refl}
use native.Mathlib.Omega.{arith}
use Rattle.plan_tables.proofs.Ruled.{rules_begin, column-below, column_asks, rules_next, rules_all}
use Rattle.plan_tables.proofs.rules.fill_columns.Goals as goal

pub loop-k-init : goal.loop-k-init
loop-k-init c = (omega arith, λ l n m rank a. rules_begin a c.args.cmdims.now)

pub offset_bounds-columns-k : goal.offset_bounds-columns-k
offset_bounds-columns-k c = omega (arith, c.requires.4.few, c.loop-k.invariant.0, c.loop-k-test.true)

pub bounds-columns-k : goal.bounds-columns-k
bounds-columns-k c = omega (arith, c.requires.4.few, c.loop-k.invariant.0, c.loop-k-test.true)

pub overflow_cast-e : goal.overflow_cast-e
overflow_cast-e c = omega (arith, column-below c.requires.4 c.args.cmdims.now (c.loop-k.invariant.1 c.requires.0 c.requires.1 c.requires.2 c.requires.3 c.requires.4) c.loop-k.invariant.0 (c.loop-k.k - 1) (omega (arith, c.loop-k-test.true)) refl)

pub get_exp_dim-d-requires : goal.get_exp_dim-d-requires
get_exp_dim-d-requires c = (c.requires.0, c.requires.1, c.requires.2, c.requires.3, column_asks c.requires.4 c.args.cmdims.now (c.loop-k.invariant.1 c.requires.0 c.requires.1 c.requires.2 c.requires.3 c.requires.4) c.loop-k.invariant.0 (c.loop-k.k - 1) (omega (arith, c.loop-k-test.true)) refl)

pub pack-requires : goal.pack-requires
pack-requires c = omega (arith, c.requires.4.few, c.loop-k.invariant.0, c.loop-k-test.true)

pub offset_bounds-rules-e : goal.offset_bounds-rules-e
offset_bounds-rules-e c = omega (arith, column-below c.requires.4 c.args.cmdims.now (c.loop-k.invariant.1 c.requires.0 c.requires.1 c.requires.2 c.requires.3 c.requires.4) c.loop-k.invariant.0 (c.loop-k.k - 1) (omega (arith, c.loop-k-test.true)) refl)

pub bounds-rules-e : goal.bounds-rules-e
bounds-rules-e c = column-below c.requires.4 c.args.cmdims.now (c.loop-k.invariant.1 c.requires.0 c.requires.1 c.requires.2 c.requires.3 c.requires.4) c.loop-k.invariant.0 (c.loop-k.k - 1) (omega (arith, c.loop-k-test.true)) refl

pub loop-k-smaller : goal.loop-k-smaller
loop-k-smaller c = omega (arith, c.requires.4.few, c.loop-k.invariant.0, c.loop-k-test.true)

pub loop-k-preserved : goal.loop-k-preserved
loop-k-preserved c = (omega (arith, c.loop-k.invariant.0), λ l n m rank a. rules_next a c.args.cmdims.now (c.loop-k.invariant.1 l n m rank a) c.loop-k.invariant.0 (c.loop-k.k - 1) (omega (arith, c.loop-k-test.true)) refl (c.get_exp_dim-d.ensures l n m rank (column_asks a c.args.cmdims.now (c.loop-k.invariant.1 l n m rank a) c.loop-k.invariant.0 (c.loop-k.k - 1) (omega (arith, c.loop-k-test.true)) refl)) c.pack.ensures)

pub returns : goal.returns
returns c = λ l n m rank a. rules_all a c.args.cmdims.now (c.loop-k.invariant.1 l n m rank a) c.loop-k.invariant.0 (omega (arith, c.loop-k-test.false))
