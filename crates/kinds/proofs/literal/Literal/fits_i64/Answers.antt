-- `kinds::literal::Literal::fits_i64` meets its contract, with a minus and without.
-- Assumes nothing.
use Rattle.kinds.specs.Literals.{fits_i64}
use Rattle.kinds.proofs.literal.Literal.fits_i64.Goals as goal

pub returns-then-self : goal.returns-then-self
unfolding fits_i64
returns-then-self c = simp c.if-self.true

pub returns-else-self : goal.returns-else-self
unfolding fits_i64
returns-else-self c = simp c.if-self.false
