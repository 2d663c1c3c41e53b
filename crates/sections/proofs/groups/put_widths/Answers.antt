-- `sections::groups::put_widths` meets its contract: the widths of the sections before s are written.
-- Assumes nothing.
use mathlib.Core.Path.{refl, sym}
use native.Mathlib.Omega.{arith}
use lib.ListN.{length-set}
use Rattle.kinds.specs.Write.{write-none}
use Rattle.sections.proofs.Laws.Tables.{widths-next, widths-end}
use Rattle.sections.proofs.groups.put_widths.Goals as goal

pub loop-s-init : goal.loop-s-init
loop-s-init c = (omega arith, sym (write-none _ _), refl)

pub of-requires : goal.of-requires
of-requires c = (omega arith, c.requires.0)

pub loop-s-preserved : goal.loop-s-preserved
loop-s-preserved c = (omega arith, widths-next _ _ _ _ _ _ c.loop-s.invariant.1 c.of.ensures, simp length-set c.loop-s.invariant.2)

pub shape_of-widths : goal.shape_of-widths
shape_of-widths c = c.loop-s.invariant.2

pub returns : goal.returns
returns c = widths-end _ _ _ _ _ c.loop-s.invariant.1 c.loop-s.invariant.0 c.loop-s-test.false
