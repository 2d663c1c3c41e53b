-- `constraint_pieces::mark::mark_one` meets its contract.
-- Assumes nothing.
use Rattle.constraint_pieces.proofs.Turns.{one-is}
use Rattle.constraint_pieces.proofs.mark.mark_one.Goals as goal

pub returns : goal.returns
returns c = one-is _ _
