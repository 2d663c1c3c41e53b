-- `readable::tree::put_tree` is safe, and what it puts fits the page. The measure is the parent's number.
-- Assumes nothing.
use native.Mathlib.Omega.{arith}
use Rattle.readable.proofs.tree.+put_tree.Goals as goal

pub third_child-c-requires : goal.third_child-c-requires
third_child-c-requires t c = omega (arith, c.if-below-i.false, c.requires.nodes)

pub put_tree-third-requires : goal.put_tree-third-requires
put_tree-third-requires t c = (omega (arith, c.if-below-i.false), record { room = c.put_sign-plus.ensures.within; nodes = omega (arith, c.if-below-i.false, c.requires.nodes) })

pub shape_of-page : goal.shape_of-page
shape_of-page t c = omega (arith, c.put_open-open.auto.page, c.put_tree-first.auto.page, c.put_sign-sign.auto.page, c.put_tree-second.auto.page, c.put_sign-plus.auto.page, c.put_tree-third.auto.page, c.put_close-2.auto.page)

pub returns : goal.returns
returns t c = record { after = omega (arith, c.put_open-open.ensures.after, c.put_tree-first.ensures.after, c.put_sign-sign.ensures.after, c.put_tree-second.ensures.after, c.put_sign-plus.ensures.after, c.put_tree-third.ensures.after, c.put_close-2.ensures.after); within = c.put_close-2.ensures.within }
