-- `context::load::load_marks` meets its contract: the marks below `cell` are copied.
-- Assumes nothing.
use Prim.Native.Nat.{◌≤◌, ◌-◌}
use mathlib.Core.Path.{◌≡◌}
use lib.ListN.{take, drop}
use Rattle.kinds.specs.Write.{write}
use Rattle.context.specs.Context.{cells, marks_at}
use Rattle.context.proofs.load.load_marks.Given as goal

abbrev pub invariant-loop-cell : goal.invariant-loop-cell
invariant-loop-cell l = (l.cell ≤ cells) × (l.marks ≡ write l.initial.marks 0 (take l.cell (drop marks_at l.context)))

abbrev pub decreases-loop-cell : goal.decreases-loop-cell
decreases-loop-cell l = cells - l.cell
