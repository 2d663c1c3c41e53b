-- `constraint_lists::measure::more_steps` meets its contract.
-- Assumes nothing.
use Rattle.constraint_lists.proofs.Finals.{more-closed, more-none, more_open}
use Rattle.constraint_lists.proofs.measure.more_steps.Goals as goal

pub returns-then-n-gt0 : goal.returns-then-n-gt0
returns-then-n-gt0 c = more-closed _ _ c.if-closes.true c.if-n-gt0.true

pub returns-else-n-gt0 : goal.returns-else-n-gt0
returns-else-n-gt0 c = more-none c.args.closes _ c.if-n-gt0.false

pub returns-else-closes : goal.returns-else-closes
returns-else-closes c = more_open _ _ c.if-closes.false
