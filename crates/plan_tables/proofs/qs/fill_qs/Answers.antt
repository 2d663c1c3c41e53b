-- `plan_tables::qs::fill_qs` meets its contract: the first i numbers are listed. Assumes nothing.
use Prim.Native.Nat.{◌+◌}
use mathlib.Core.Path.{◌≡◌}
use native.Mathlib.Omega.{arith}
use Rattle.plans.specs.Plan.{number_at, qs_at, qs_count}
use Rattle.plans.specs.Places.{at_same}
use Rattle.plan_tables.proofs.Copied.{copied_none, copied_next, copied_all}
use Rattle.plan_tables.proofs.qs.fill_qs.Goals as goal

pub qs_count-count-requires : goal.qs_count-count-requires
qs_count-count-requires c = c.requires.0

pub qs_at-at-requires : goal.qs_at-at-requires
qs_at-at-requires c = c.requires.0

pub loop-i-init : goal.loop-i-init
loop-i-init c = (omega arith, copied_none (λ j. number_at c.args.plan.now (qs_at c.args.plan.now + j)) c.args.numbers.now)

pub overflow_add-at : goal.overflow_add-at
overflow_add-at c = omega (arith, c.requires.0, c.requires.1, c.qs_count-count.ensures.is, c.qs_count-count.ensures.low, c.qs_at-at.ensures.is, c.qs_at-at.ensures.low, c.loop-i-test.true)

pub number_at-requires : goal.number_at-requires
number_at-requires c = omega (arith, c.requires.0, c.requires.1, c.qs_count-count.ensures.is, c.qs_count-count.ensures.low, c.qs_at-at.ensures.is, c.qs_at-at.ensures.low, c.loop-i-test.true)

pub overflow_cast-numbers : goal.overflow_cast-numbers
overflow_cast-numbers c = omega (arith, c.number_at.ensures.low)

pub offset_bounds-numbers-i : goal.offset_bounds-numbers-i
offset_bounds-numbers-i c = omega (arith, c.requires.0, c.requires.1, c.qs_count-count.ensures.is, c.qs_count-count.ensures.low, c.qs_at-at.ensures.is, c.qs_at-at.ensures.low, c.loop-i-test.true)

pub bounds-numbers-i : goal.bounds-numbers-i
bounds-numbers-i c = omega (arith, c.requires.0, c.requires.1, c.qs_count-count.ensures.is, c.qs_count-count.ensures.low, c.qs_at-at.ensures.is, c.qs_at-at.ensures.low, c.loop-i-test.true)

pub loop-i-smaller : goal.loop-i-smaller
loop-i-smaller c = omega (arith, c.loop-i-test.true)

pub loop-i-preserved : goal.loop-i-preserved
loop-i-preserved c = (omega (arith, c.loop-i-test.true, c.qs_count-count.ensures.is), copied_next (λ j. number_at c.args.plan.now (qs_at c.args.plan.now + j)) c.args.numbers.now c.loop-i.i (at_same c.args.plan.now _ c.number_at.ensures (omega (arith, c.qs_at-at.ensures.is))) c.loop-i.invariant.1)

pub returns : goal.returns
returns c = (copied_all (λ j. number_at c.args.plan.now (qs_at c.args.plan.now + j)) c.args.numbers.now c.loop-i.invariant.1 (let e : c.loop-i.i ≡ c.qs_count-count.result = omega (arith, c.loop-i-test.false, c.loop-i.invariant.0, c.qs_count-count.ensures.is) in e) (let e : c.loop-i.i ≡ qs_count c.args.plan.now = omega (arith, c.loop-i-test.false, c.loop-i.invariant.0, c.qs_count-count.ensures.is) in e), c.qs_count-count.ensures.low)
