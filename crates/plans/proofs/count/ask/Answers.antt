-- `plans::count::ask` meets its contract. Assumes nothing.
use Rattle.plans.specs.Counts.{asked-seen, asked-new}
use Rattle.plans.proofs.count.ask.Goals as goal

pub returns-then-seen-e-eq-SEEN : goal.returns-then-seen-e-eq-SEEN
returns-then-seen-e-eq-SEEN c = asked-seen c.args.seen.now c.args.e c.if-seen-e-eq-SEEN.true

pub returns : goal.returns
returns c = asked-new c.args.seen.now c.args.e c.if-seen-e-eq-SEEN.false
