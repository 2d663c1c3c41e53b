-- `evaluator_cells::valued::put_all` meets its contract: the cells before j stand in the answer.
-- Assumes nothing.
use Prim.Native.Nat.{◌≤◌, ◌-◌}
use mathlib.Core.Path.{◌≡◌}
use lib.ListN.{length}
use Rattle.kinds.specs.Write.{write}
use Rattle.evaluator_cells.specs.Keyed.{keyed_to}
use Rattle.evaluator_cells.proofs.valued.put_all.Given as goal

abbrev pub invariant-loop-j : goal.invariant-loop-j
invariant-loop-j l = (l.j ≤ l.cells.count) × (length l.out ≡ length l.initial.out) × (l.out ≡ write l.initial.out 0 (keyed_to l.cells.keys l.cells.values l.j))

abbrev pub decreases-loop-j : goal.decreases-loop-j
decreases-loop-j l = l.cells.count - l.j
