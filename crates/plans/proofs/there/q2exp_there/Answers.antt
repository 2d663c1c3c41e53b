-- `plans::there::q2exp_there` meets its contract: the expressions of the q numbers before i are there. Assumes nothing.
use mathlib.Core.Path.{refl}
use native.Mathlib.Omega.{arith}
use Rattle.plans.specs.Plan.{q2exp_count}
use Rattle.plans.specs.Agreement.{q2exp_there}
use Rattle.plans.specs.Every.{every-next, every-fails, every-ends, below-not, below-is}
use Rattle.plans.specs.Places.{at_same}
use Rattle.plans.proofs.there.q2exp_there.Goals as goal

pub q2exp_count-n-requires : goal.q2exp_count-n-requires
q2exp_count-n-requires c = c.requires.0

pub q2exp_at-at-requires : goal.q2exp_at-at-requires
q2exp_at-at-requires c = c.requires.0

pub loop-i-init : goal.loop-i-init
loop-i-init c = (omega arith, refl)

pub overflow_add-at : goal.overflow_add-at
overflow_add-at c = omega (arith, c.requires.0, c.requires.1, c.q2exp_count-n.ensures.is, c.q2exp_count-n.ensures.low, c.q2exp_at-at.ensures.is, c.q2exp_at-at.ensures.low, c.loop-i-test.true)

pub number_at-requires : goal.number_at-requires
number_at-requires c = omega (arith, c.requires.0, c.requires.1, c.q2exp_count-n.ensures.is, c.q2exp_count-n.ensures.low, c.q2exp_at-at.ensures.is, c.q2exp_at-at.ensures.low, c.loop-i-test.true)

pub returns-then-m-number_at : goal.returns-then-m-number_at
returns-then-m-number_at c = every-fails (q2exp_there c.args.plan.now c.args.m) (q2exp_count c.args.plan.now) c.loop-i.i (omega (arith, c.loop-i-test.true, c.q2exp_count-n.ensures.is)) (below-not (at_same c.args.plan.now _ c.number_at.ensures (omega (arith, c.q2exp_at-at.ensures.is))) c.if-m-number_at.true)

pub loop-i-smaller : goal.loop-i-smaller
loop-i-smaller c = omega (arith, c.loop-i-test.true)

pub loop-i-preserved : goal.loop-i-preserved
loop-i-preserved c = (omega (arith, c.loop-i-test.true, c.q2exp_count-n.ensures.is), every-next (q2exp_there c.args.plan.now c.args.m) c.loop-i.i c.loop-i.invariant.1 (below-is (at_same c.args.plan.now _ c.number_at.ensures (omega (arith, c.q2exp_at-at.ensures.is))) c.if-m-number_at.false))

pub returns : goal.returns
returns c = every-ends (q2exp_there c.args.plan.now c.args.m) c.loop-i.invariant.0 (omega (arith, c.loop-i-test.false, c.q2exp_count-n.ensures.is)) c.loop-i.invariant.1
