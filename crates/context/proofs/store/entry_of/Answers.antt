-- `context::store::entry_of` meets its contract.
-- Assumes nothing.
use mathlib.Core.Path.{refl}
use Rattle.context.specs.Tables.{entry_of}
use Rattle.context.proofs.store.entry_of.Goals as goal

pub returns : goal.returns
unfolding entry_of
returns c = refl
