-- `context::check::cells_apart` meets its contract: the cells of the blocks before k, and no others, are marked as seen.
-- Assumes nothing.
use Prim.Native.Nat.{◌≤◌, ◌-◌}
use mathlib.Core.Path.{◌≡◌}
use Rattle.context.specs.Context.{cells, blocks_in, cell_in}
use Rattle.context.proofs.Cells.{Seen}
use Rattle.context.proofs.check.cells_apart.Given as goal

abbrev pub invariant-loop-k : goal.invariant-loop-k
invariant-loop-k l = (l.n ≡ blocks_in l.context) × (l.k ≤ l.n) × Seen (cell_in l.context) cells l.k l.seen

abbrev pub decreases-loop-k : goal.decreases-loop-k
decreases-loop-k l = l.n - l.k
