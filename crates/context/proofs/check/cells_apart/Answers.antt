-- `context::check::cells_apart` meets its contract: the cells of the blocks before k, and no others, are marked as seen.
-- Assumes nothing.
use mathlib.Core.Path.{◌∙◌, ap}
use native.Mathlib.Omega.{arith}
use Rattle.context.specs.Context.{cells, entry_cell, cell_in}
use Rattle.context.proofs.Cells.{none_seen, one_seen, seen_twice, all_seen}
use Rattle.context.proofs.check.cells_apart.Goals as goal

pub blocks_of-n-requires : goal.blocks_of-n-requires
blocks_of-n-requires c = omega (arith, c.requires)

pub loop-k-init : goal.loop-k-init
loop-k-init c = (c.blocks_of-n.ensures.is, omega arith, none_seen (cell_in _) cells)

pub entry_at-requires : goal.entry_at-requires
entry_at-requires c = omega (arith, c.requires)

pub cell-cell-requires : goal.cell-cell-requires
cell-cell-requires c = omega (arith, c.requires)

pub bounds-seen-cell : goal.bounds-seen-cell
bounds-seen-cell c = let e = c.cell-cell.ensures ∙ ap entry_cell c.entry_at.ensures in omega (arith, c.requires.cell c.loop-k.k (omega arith), c.loop-k.invariant.2.full)

pub returns-then-seen-cell-eq-MARKED : goal.returns-then-seen-cell-eq-MARKED
returns-then-seen-cell-eq-MARKED c = seen_twice _ _ _ _ _ _ c.loop-k.invariant.2 (omega arith) (c.cell-cell.ensures ∙ ap entry_cell c.entry_at.ensures) c.if-seen-cell-eq-MARKED.true

pub bounds-seen-cell-in-loop-k : goal.bounds-seen-cell-in-loop-k
bounds-seen-cell-in-loop-k c = let e = c.cell-cell.ensures ∙ ap entry_cell c.entry_at.ensures in omega (arith, c.requires.cell c.loop-k.k (omega arith), c.loop-k.invariant.2.full)

pub loop-k-smaller : goal.loop-k-smaller
loop-k-smaller c = omega (arith, c.requires)

pub loop-k-preserved : goal.loop-k-preserved
loop-k-preserved c = (c.loop-k.invariant.0, omega arith, one_seen _ _ _ _ _ c.loop-k.invariant.2 (c.cell-cell.ensures ∙ ap entry_cell c.entry_at.ensures) (c.requires.cell c.loop-k.k (omega arith)) c.if-seen-cell-eq-MARKED.false)

pub returns : goal.returns
returns c = all_seen _ _ _ _ _ c.loop-k.invariant.2 (omega arith)
