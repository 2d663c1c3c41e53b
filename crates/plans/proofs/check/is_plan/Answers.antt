-- `plans::check::is_plan` meets its contract. Assumes nothing.
use Rattle.plans.proofs.Checks.{too_short, wrong_size, right-size, by_order}
use Rattle.plans.proofs.check.is_plan.Goals as goal

pub returns-then-plan : goal.returns-then-plan
returns-then-plan c = too_short c.args.plan.now c.if-plan.true

pub returns-then-plan-q2exp_at : goal.returns-then-plan-q2exp_at
returns-then-plan-q2exp_at c = wrong_size c.args.plan.now c.if-plan.false c.q2exp_at.ensures c.q2exp_count.ensures c.if-plan-q2exp_at.true

pub ascends-requires : goal.ascends-requires
ascends-requires c = (c.if-plan.false, right-size c.args.plan.now c.if-plan.false c.q2exp_at.ensures c.q2exp_count.ensures c.if-plan-q2exp_at.false)

pub returns : goal.returns
returns c = by_order c.args.plan.now c.if-plan.false c.q2exp_at.ensures c.q2exp_count.ensures c.if-plan-q2exp_at.false c.ascends.ensures
