-- `plans::check::ascends` meets its contract: the intermediates up to i ascend. Assumes nothing.
use Prim.Native.Nat.{◌-◌}
use native.Mathlib.Omega.{arith}
use Rattle.plans.specs.Plan.{im_count, ascends}
use Rattle.plans.specs.Every.{every-fails}
use Rattle.plans.specs.Places.{ascends-not}
use Rattle.plans.proofs.check.ascends.Goals as goal

pub returns-then-number_at : goal.returns-then-number_at
returns-then-number_at c = every-fails (ascends c.args.plan.now) (im_count c.args.plan.now - 1) c.loop-i.i (omega (arith, c.loop-i-test.true, c.im_count-n.ensures.is, c.saturating_sub-i-end.ensures)) (ascends-not c.args.plan.now c.loop-i.i c.im_at-at.ensures.is c.number_at-in-loop-i.ensures c.number_at.ensures c.if-number_at.true)
