-- `fixing::rewrite::Given::temporary` meets its contract.
-- Assumes nothing.
use borrow.Author.Tests.{eq-eqb, ne_eqb}
use Rattle.fixing.specs.Machine.{temporary_in}
use Rattle.fixing.proofs.rewrite.Given.temporary.Goals as goal

pub returns-then-prime-eq0 : goal.returns-then-prime-eq0
unfolding temporary_in
returns-then-prime-eq0 c = rw (eq-eqb _ _ c.if-prime-eq0.true)

pub returns-else-prime-eq0 : goal.returns-else-prime-eq0
unfolding temporary_in
returns-else-prime-eq0 c = rw (ne_eqb _ _ c.if-prime-eq0.false)
