-- `codegen::commit::put_result` meets its contract.
-- Assumes nothing.
use mathlib.Core.Path.{refl}
use Rattle.codegen.proofs.Small.{start-asks, insert-asks, grow-asks, next-inserted}
use Rattle.codegen.proofs.commit.put_result.Goals as goal

pub start_of-pos-requires : goal.start_of-pos-requires
start_of-pos-requires c = start-asks c.requires

pub insert_copy-requires : goal.insert_copy-requires
insert_copy-requires c = insert-asks c.requires c.start_of-pos.ensures refl

pub grow-requires : goal.grow-requires
grow-requires c = grow-asks c.requires

pub returns : goal.returns
returns c = (c.grow.ensures, next-inserted _ _ _ _ _ c.insert_copy.ensures c.start_of-pos.ensures)
