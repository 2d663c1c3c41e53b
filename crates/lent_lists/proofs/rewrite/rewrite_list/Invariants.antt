-- `lent_lists::rewrite::rewrite_list` meets its contract: the records before k are rewritten, and the others as they were.
-- Assumes nothing.
use mathlib.Core.Path.{◌≡◌}
use Rattle.kinds.specs.Write.{write}
use Rattle.lent_lists.specs.Records.{record_by}
use Rattle.lent_lists.specs.Laws.Rewriting.{front}
use Rattle.lent_lists.proofs.rewrite.rewrite_list.Given as goal

abbrev pub invariant-loop-k : goal.invariant-loop-k
invariant-loop-k g l = l.list ≡ write l.initial.list 0 (front (record_by (g.R.Rewrite.made l.rule)) l.initial.list l.k)
