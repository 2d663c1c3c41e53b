-- `codegen::store::mark_byte` meets its contract.
-- Assumes nothing.
use Rattle.codegen.proofs.Small.{is-marked, is-unmarked}
use Rattle.codegen.proofs.store.mark_byte.Goals as goal

pub returns-then-mark-gt-UNMARKED : goal.returns-then-mark-gt-UNMARKED
returns-then-mark-gt-UNMARKED c = is-marked _ c.if-mark-gt-UNMARKED.true

pub returns : goal.returns
returns c = is-unmarked _ c.if-mark-gt-UNMARKED.false
