-- `kinds::literal::Literal::is_minus_zero` meets its contract, with a minus and without.
-- Assumes nothing.
use Rattle.kinds.specs.Literals.{is_minus_zero}
use Rattle.kinds.proofs.literal.Literal.is_minus_zero.Goals as goal

pub returns-then-self : goal.returns-then-self
unfolding is_minus_zero
returns-then-self c = simp c.if-self.true

pub returns-else-self : goal.returns-else-self
unfolding is_minus_zero
returns-else-self c = simp c.if-self.false
