-- `plans::there::lookups_there` meets its contract: what the pu before i name is there. Assumes nothing.
use mathlib.Core.Path.{refl}
use native.Mathlib.Omega.{arith}
use Rattle.plans.specs.Plan.{pu_count, t_of, f_of}
use Rattle.plans.specs.Agreement.{lookup_there}
use Rattle.plans.specs.Every.{every-next, every-fails, every-ends, both_first, both-second, both_are}
use Rattle.plans.proofs.there.lookups_there.Goals as goal

pub pu_count-n-requires : goal.pu_count-n-requires
pu_count-n-requires c = c.requires.0

pub loop-i-init : goal.loop-i-init
loop-i-init c = (omega arith, refl)

pub overflow_mul-f : goal.overflow_mul-f
overflow_mul-f c = omega (arith, c.requires.0, c.requires.1, c.pu_count-n.ensures.is, c.pu_count-n.ensures.low, c.loop-i-test.true)

pub overflow_add-f : goal.overflow_add-f
overflow_add-f c = omega (arith, c.requires.0, c.requires.1, c.pu_count-n.ensures.is, c.pu_count-n.ensures.low, c.loop-i-test.true)

pub number_at-requires : goal.number_at-requires
number_at-requires c = omega (arith, c.requires.0, c.requires.1, c.pu_count-n.ensures.is, c.pu_count-n.ensures.low, c.loop-i-test.true)

pub returns-then-m-number_at : goal.returns-then-m-number_at
returns-then-m-number_at c = every-fails (lookup_there c.args.plan.now c.args.m) (pu_count c.args.plan.now) c.loop-i.i (omega (arith, c.loop-i-test.true, c.pu_count-n.ensures.is)) (both_first (t_of c.args.plan.now c.loop-i.i) c.number_at.ensures.is c.if-m-number_at.true)

pub overflow_add-f-in-loop-i : goal.overflow_add-f-in-loop-i
overflow_add-f-in-loop-i c = omega (arith, c.requires.0, c.requires.1, c.pu_count-n.ensures.is, c.pu_count-n.ensures.low, c.loop-i-test.true)

pub number_at-requires-in-loop-i : goal.number_at-requires-in-loop-i
number_at-requires-in-loop-i c = omega (arith, c.requires.0, c.requires.1, c.pu_count-n.ensures.is, c.pu_count-n.ensures.low, c.loop-i-test.true)

pub returns-then-m-number_at-2 : goal.returns-then-m-number_at-2
returns-then-m-number_at-2 c = every-fails (lookup_there c.args.plan.now c.args.m) (pu_count c.args.plan.now) c.loop-i.i (omega (arith, c.loop-i-test.true, c.pu_count-n.ensures.is)) (both-second (f_of c.args.plan.now c.loop-i.i) c.number_at-in-loop-i.ensures.is c.if-m-number_at-2.true)

pub loop-i-smaller : goal.loop-i-smaller
loop-i-smaller c = omega (arith, c.loop-i-test.true)

pub loop-i-preserved : goal.loop-i-preserved
loop-i-preserved c = (omega (arith, c.loop-i-test.true, c.pu_count-n.ensures.is), every-next (lookup_there c.args.plan.now c.args.m) c.loop-i.i c.loop-i.invariant.1 (both_are c.number_at.ensures.is c.if-m-number_at.false c.number_at-in-loop-i.ensures.is c.if-m-number_at-2.false))

pub returns : goal.returns
returns c = every-ends (lookup_there c.args.plan.now c.args.m) c.loop-i.invariant.0 (omega (arith, c.loop-i-test.false, c.pu_count-n.ensures.is)) c.loop-i.invariant.1
