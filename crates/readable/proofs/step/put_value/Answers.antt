-- `readable::step::put_value` is safe, and what it puts fits the page.
-- Assumes nothing.
use native.Mathlib.Omega.{arith}
use Rattle.readable.proofs.step.put_value.Goals as goal

pub shape_of-page : goal.shape_of-page
shape_of-page c = omega (arith, c.put_reference-first.auto.page, c.put_sign-sign.auto.page, c.put_reference-second.auto.page, c.put_sign-plus.auto.page, c.put_reference.auto.page)

pub returns : goal.returns
returns c = record { after = omega (arith, c.put_reference-first.ensures.after, c.put_sign-sign.ensures.after, c.put_reference-second.ensures.after, c.put_sign-plus.ensures.after, c.put_reference.ensures.after); within = c.put_reference.ensures.within }
