-- `constraint_pieces::close::closing_step` meets its contract.
-- Assumes nothing.
use Rattle.constraint_pieces.proofs.close.closing_step.Goals as goal

pub returns : goal.returns
returns c = cc (c.plain.ensures, c.plain-2.ensures, c.blank.ensures)
