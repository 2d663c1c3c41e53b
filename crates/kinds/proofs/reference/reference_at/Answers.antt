-- `kinds::reference::reference_at` meets its contract: each field is what is read at its place.
-- Assumes nothing.
use Rattle.kinds.specs.References.{ref_at}
use Rattle.kinds.proofs.reference.reference_at.Goals as goal

pub returns : goal.returns
unfolding ref_at
returns c = cc
