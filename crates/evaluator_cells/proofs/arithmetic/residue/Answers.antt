-- `evaluator_cells::arithmetic::residue` meets its contract.
-- Assumes nothing.
use native.Mathlib.Omega.{arith}
use mathlib.Core.Path.{refl}
use Rattle.evaluator_cells.specs.Laws.Arithmetic.{mod_below, lit-minus, lit-plus}
use Rattle.evaluator_cells.proofs.arithmetic.residue.Goals as goal

pub overflow_sub-result : goal.overflow_sub-result
overflow_sub-result c = omega (arith, mod_below c.args.l.magnitude _ c.requires)

pub returns-then-l : goal.returns-then-l
returns-then-l c = lit-minus _ _ _ _ c.if-l.true refl

pub returns : goal.returns
returns c = lit-plus _ _ _ _ c.if-l.false refl
