-- `constraint_lists::measure::close_words` meets its contract.
-- Assumes nothing.
use Rattle.constraint_lists.proofs.Finals.{grow-asks, words-closed, words-none, words_open}
use Rattle.constraint_lists.proofs.measure.close_words.Goals as goal

pub grow-requires : goal.grow-requires
grow-requires c = grow-asks c.requires c.if-n-gt0.true

pub returns-then-n-gt0 : goal.returns-then-n-gt0
returns-then-n-gt0 c = words-closed _ _ _ _ c.if-closes.true c.if-n-gt0.true c.grow.ensures

pub returns-else-n-gt0 : goal.returns-else-n-gt0
returns-else-n-gt0 c = words-none c.args.closes _ _ c.if-n-gt0.false

pub returns-else-closes : goal.returns-else-closes
returns-else-closes c = words_open _ _ _ c.if-closes.false
