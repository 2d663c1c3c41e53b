-- `evaluator_cells::cells::Cells::add` meets its contract.
-- Assumes nothing.
use mathlib.Core.Path.{refl}
use native.Mathlib.Omega.{arith}
use Rattle.evaluator_cells.specs.Laws.Chains.{id-small}
use Rattle.evaluator_cells.proofs.cells.Cells.add.Goals as goal

pub offset_bounds-self-id : goal.offset_bounds-self-id
offset_bounds-self-id c = omega (arith, c.id_of-id.ensures, id-small c.args.key)

pub bounds-self-id : goal.bounds-self-id
bounds-self-id c = omega (arith, c.id_of-id.ensures, id-small c.args.key)

pub offset_bounds-self-id-2 : goal.offset_bounds-self-id-2
offset_bounds-self-id-2 c = omega (arith, c.id_of-id.ensures, id-small c.args.key)

pub bounds-self-id-2 : goal.bounds-self-id-2
bounds-self-id-2 c = omega (arith, c.id_of-id.ensures, id-small c.args.key)

pub returns : goal.returns
returns c = rw c.id_of-id.ensures (record { heads = refl; nexts = refl; keys = refl; values = refl; count = refl })
