-- `evaluator_cells::numbers::fill_numbers` meets its contract: the numbers of the first n nodes stand in the table.
-- Assumes nothing.
use native.Mathlib.Omega.{arith}
use Rattle.evaluator_cells.specs.Laws.Literals.{fill_begins, fill-next, fill-ends}
use Rattle.evaluator_cells.proofs.numbers.fill_numbers.Goals as goal

pub loop-n-init : goal.loop-n-init
loop-n-init c = (omega arith, fill_begins _ _ _ _ c.requires.zeros)

pub literal_of-requires : goal.literal_of-requires
literal_of-requires c = omega (arith, c.loop-n-test.true, c.requires.few)

pub residue-requires : goal.residue-requires
residue-requires c = c.requires.modulus

pub offset_bounds-numbers-n : goal.offset_bounds-numbers-n
offset_bounds-numbers-n c = omega (arith, c.loop-n-test.true, c.requires.few)

pub bounds-numbers-n : goal.bounds-numbers-n
bounds-numbers-n c = omega (arith, c.loop-n-test.true, c.requires.few)

pub loop-n-smaller : goal.loop-n-smaller
loop-n-smaller c = omega (arith, c.loop-n-test.true, c.requires.few)

pub loop-n-preserved : goal.loop-n-preserved
loop-n-preserved c = (omega (arith, c.loop-n-test.true), fill-next _ _ _ _ _ _ _ c.loop-n.invariant.1 (omega (arith, c.loop-n-test.true, c.requires.few)) c.literal_of.ensures c.residue.ensures)

pub returns : goal.returns
returns c = fill-ends _ _ _ _ _ _ c.loop-n.invariant.1 c.loop-n.invariant.0 c.loop-n-test.false
