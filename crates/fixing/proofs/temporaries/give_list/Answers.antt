-- `fixing::temporaries::give_list` meets its contract: the tables are those of the records before k.
-- Assumes nothing.
use mathlib.Core.Path.{refl}
use native.Mathlib.Omega.{arith}
use Rattle.lists.specs.Laws.{record_in}
use Rattle.fixing.specs.Laws.Giving.{give-begin, give-next, give-end}
use Rattle.fixing.proofs.temporaries.give_list.Goals as goal

pub loop-k-init : goal.loop-k-init
loop-k-init c = give-begin _ _ _

pub give_record-after-requires : goal.give_record-after-requires
give_record-after-requires c = record_in c.args.list.now c.loop-k.k c.loop-k-test.true

pub loop-k-preserved : goal.loop-k-preserved
loop-k-preserved c = give-next _ _ _ _ _ _ c.loop-k.invariant _ refl c.give_record-after.ensures

pub returns : goal.returns
returns c = give-end _ _ _ _ _ c.loop-k.invariant c.loop-k.auto.k-end (omega arith)
