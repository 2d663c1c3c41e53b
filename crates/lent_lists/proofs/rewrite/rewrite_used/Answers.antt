-- `lent_lists::rewrite::rewrite_used` meets its contract.
-- Assumes nothing.
use native.Mathlib.Omega.{arith}
use Rattle.lent_lists.specs.Laws.Rewriting.{used-put, unused-put}
use Rattle.lent_lists.proofs.rewrite.rewrite_used.Goals as goal

pub returns-then-used : goal.returns-then-used
returns-then-used g c = used-put _ _ _ _ _ c.if-used.true c.rewrite.ensures

pub returns-else-used : goal.returns-else-used
returns-else-used g c = unused-put _ _ _ _ c.if-used.false (λ i. omega (arith, c.type_inv.list i))
