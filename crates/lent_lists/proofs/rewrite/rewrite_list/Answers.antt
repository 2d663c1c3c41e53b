-- `lent_lists::rewrite::rewrite_list` meets its contract: the records before k are rewritten, and the others as they were.
-- Assumes nothing.
use mathlib.Core.Path.{refl}
use native.Mathlib.Omega.{arith}
use Rattle.lists.specs.Laws.{record_in}
use Rattle.lent_lists.specs.Laws.Rewriting.{rewrite-begin, rewrite-room, rewrite-next, rewrite-end}
use Rattle.lent_lists.proofs.rewrite.rewrite_list.Goals as goal

pub loop-k-init : goal.loop-k-init
loop-k-init g c = rewrite-begin _ _

pub rewrite_record-requires : goal.rewrite_record-requires
rewrite_record-requires g c = rewrite-room _ _ _ _ c.loop-k.invariant (record_in c.args.list.now c.loop-k.k c.loop-k-test.true)

pub loop-k-preserved : goal.loop-k-preserved
loop-k-preserved g c = rewrite-next _ _ _ _ _ c.loop-k.invariant _ _ refl refl c.rewrite_record.ensures

pub returns : goal.returns
returns g c = rewrite-end _ _ _ _ c.loop-k.invariant c.loop-k.auto.k-end (omega arith)
