-- `lent_lists::judge::judge_used` meets its contract.
-- Assumes nothing.
use Rattle.kinds.specs.References.{ref_at}
use Rattle.lent_lists.specs.Laws.Walks.{used-ruled, unused-ruled}
use Rattle.lent_lists.proofs.judge.judge_used.Goals as goal

pub returns-then-used : goal.returns-then-used
returns-then-used g c = used-ruled _ _ (ref_at c.args.list.now c.args.at) _ c.if-used.true c.judge.ensures

pub returns : goal.returns
returns g c = unused-ruled _ _ (ref_at c.args.list.now c.args.at) c.if-used.false
