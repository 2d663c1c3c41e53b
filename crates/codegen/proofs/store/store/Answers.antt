-- `codegen::store::store` meets its contract.
-- Assumes nothing.
use Rattle.codegen.proofs.Coded.{counters-ask, marks-ask, blocks-ask, stored}
use Rattle.codegen.proofs.store.store.Goals as goal

pub settle-requires : goal.settle-requires
settle-requires c = c.requires.marks

pub store_counters-requires : goal.store_counters-requires
store_counters-requires c = counters-ask c.requires

pub store_marks-requires : goal.store_marks-requires
store_marks-requires c = marks-ask c.requires c.store_counters.ensures c.settle.ensures

pub store_blocks-requires : goal.store_blocks-requires
store_blocks-requires c = blocks-ask c.requires c.store_counters.ensures c.settle.ensures c.store_marks.ensures

pub returns : goal.returns
returns c = stored c.requires c.store_counters.ensures c.settle.ensures c.store_marks.ensures c.store_blocks.ensures
