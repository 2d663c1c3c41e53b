-- `dimensions::pass::write_list` meets its contract: the records before k are written, where they have their dimensions.
-- Assumes nothing.
use native.Mathlib.Omega.{arith}
use Rattle.dimensions.specs.Laws.Passes.{wrote, write-begin, write-more, write-end, record-still}
use Rattle.dimensions.proofs.pass.write_list.Goals as goal

pub loop-k-init : goal.loop-k-init
loop-k-init c = write-begin _ _ _

pub write_dims-requires : goal.write_dims-requires
write_dims-requires c = record-still c.args.list.now c.loop-k.list c.loop-k.k c.loop-k.auto.list c.loop-k-test.true

pub loop-k-preserved : goal.loop-k-preserved
loop-k-preserved c = write-more _ _ _ _ _ _ _ _ c.loop-k.invariant (wrote _ _ _ _ _ _ c.write_dims.ensures)

pub returns : goal.returns
returns c = write-end _ _ _ _ _ _ c.loop-k.invariant c.loop-k.auto.k-end (omega arith)
