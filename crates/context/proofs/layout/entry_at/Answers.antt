-- `context::layout::entry_at` meets its contract: each field is what is read at its place.
-- Assumes nothing.
use Rattle.context.specs.Entries.{entry_at}
use Rattle.context.proofs.layout.entry_at.Goals as goal

pub returns : goal.returns
unfolding entry_at
returns c = cc
