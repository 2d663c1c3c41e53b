-- `kinds::literal::Literal::is_allowed` meets its contract: each answer is by the tests that led there.
-- Assumes nothing.
use mathlib.Core.Path.{sym, ◌∙◌}
use Rattle.kinds.specs.Literals.{is_allowed}
use Rattle.kinds.proofs.literal.Literal.is_allowed.Goals as goal

pub returns-then-is_minus_zero : goal.returns-then-is_minus_zero
unfolding is_allowed
returns-then-is_minus_zero c = simp (sym c.is_minus_zero.ensures ∙ c.if-is_minus_zero.true)

pub returns-then-takes_i64 : goal.returns-then-takes_i64
unfolding is_allowed
returns-then-takes_i64 c = c.fits_i64.ensures ∙ simp (sym c.is_minus_zero.ensures ∙ c.if-is_minus_zero.false, sym c.takes_i64.ensures ∙ c.if-takes_i64.true)

pub returns : goal.returns
unfolding is_allowed
returns c = simp (sym c.is_minus_zero.ensures ∙ c.if-is_minus_zero.false, sym c.takes_i64.ensures ∙ c.if-takes_i64.false)
