-- `lent_lists::rewrite::rewrite_record` meets its contract.
-- Assumes nothing.
use native.Mathlib.Omega.{arith}
use Rattle.lent_lists.specs.Laws.Rewriting.{record-put}
use Rattle.lent_lists.proofs.rewrite.rewrite_record.Goals as goal

pub returns : goal.returns
returns g c = record-put _ _ _ _ _ _ _ (λ i. omega (arith, c.slice_known-1.given i)) c.rewrite.ensures c.rewrite_used.ensures c.rewrite_used-2.ensures c.rewrite_used-3.ensures
