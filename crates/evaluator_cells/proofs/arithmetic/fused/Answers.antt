-- `evaluator_cells::arithmetic::fused` meets its contract.
-- Assumes nothing.
use Rattle.evaluator_cells.specs.Laws.Arithmetic.{mod_below}
use Rattle.evaluator_cells.proofs.arithmetic.fused.Goals as goal

pub times-requires : goal.times-requires
times-requires c = record { small = c.requires.modulus.small; first = c.requires.first; second = c.requires.second }

pub plus-requires : goal.plus-requires
plus-requires c = record { small = c.requires.modulus.small; first = rw c.times.ensures (mod_below _ _ c.requires.modulus); second = c.requires.third }

pub returns : goal.returns
returns c = rw (← c.times.ensures) c.plus.ensures
