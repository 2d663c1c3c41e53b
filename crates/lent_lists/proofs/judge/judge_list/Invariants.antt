-- `lent_lists::judge::judge_list` meets its contract: nothing is refused of the records before k.
-- Assumes nothing.
use mathlib.Core.Path.{◌≡◌}
use Rattle.kinds.specs.Steps.{steps_of}
use Rattle.lent_lists.specs.Verdicts.{verdict_no}
use Rattle.lent_lists.specs.Walks.{walked, record_verdict}
use Rattle.lent_lists.proofs.judge.judge_list.Given as goal

abbrev pub invariant-loop-k : goal.invariant-loop-k
invariant-loop-k g l = verdict_no (walked (record_verdict (g.J.Judge.verdict l.judge)) (steps_of l.list l.k)) ≡ 0
