-- `constraint_pieces::close::put_closing` meets its contract.
-- Assumes nothing.
use native.Mathlib.Omega.{arith}
use Rattle.constraint_pieces.proofs.Closes.{closed-by}
use Rattle.constraint_pieces.proofs.close.put_closing.Goals as goal

pub overflow_sub-n : goal.overflow_sub-n
overflow_sub-n c = omega (arith, c.requires.some, c.requires.few, c.requires.fits)

pub nth_step-last-requires : goal.nth_step-last-requires
nth_step-last-requires c = omega (arith, c.requires.some, c.requires.few, c.requires.fits)

pub closing_step-requires : goal.closing_step-requires
closing_step-requires c = omega (arith, c.requires.some, c.requires.few, c.requires.fits)

pub put_nth_step-requires : goal.put_nth_step-requires
put_nth_step-requires c = omega (arith, c.requires.some, c.requires.few, c.requires.fits)

pub shape_of-list : goal.shape_of-list
shape_of-list c = omega (arith, c.requires.some, c.requires.few, c.requires.fits)

pub returns : goal.returns
returns c = closed-by _ _ c.nth_step-last.ensures c.closing_step.ensures c.put_nth_step.ensures
