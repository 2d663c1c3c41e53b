-- `context::store::store_marks` meets its contract: the marks below `cell` are copied.
-- Assumes nothing.
use Prim.Native.Nat.{◌≤◌, ◌-◌}
use mathlib.Core.Path.{◌≡◌}
use lib.ListN.{length, take}
use Rattle.kinds.specs.Write.{write}
use Rattle.context.specs.Context.{cells, marks_at}
use Rattle.context.proofs.store.store_marks.Given as goal

abbrev pub invariant-loop-cell : goal.invariant-loop-cell
invariant-loop-cell l = (l.cell ≤ cells) × (length l.context ≡ length l.initial.context) × (l.context ≡ write l.initial.context marks_at (take l.cell l.marks))

abbrev pub decreases-loop-cell : goal.decreases-loop-cell
decreases-loop-cell l = cells - l.cell
