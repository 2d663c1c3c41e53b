-- `codegen::store::settle` meets its contract: the marks before c are settled.
-- Assumes nothing.
use native.Mathlib.Omega.{arith}
use Rattle.codegen.proofs.Small.{none-settled, one-settled, all_settled}
use Rattle.codegen.proofs.store.settle.Goals as goal

pub loop-c-init : goal.loop-c-init
loop-c-init c = λ size. none-settled _ size

pub bounds-marks-c : goal.bounds-marks-c
bounds-marks-c c = omega (arith, c.loop-c-test.true)

pub mark_byte-requires : goal.mark_byte-requires
mark_byte-requires c = tt

pub bounds-marks-c-in-loop-c : goal.bounds-marks-c-in-loop-c
bounds-marks-c-in-loop-c c = omega (arith, c.loop-c-test.true)

pub loop-c-smaller : goal.loop-c-smaller
loop-c-smaller c = omega (arith, c.loop-c-test.true)

pub loop-c-preserved : goal.loop-c-preserved
loop-c-preserved c = λ size. one-settled _ size (c.loop-c.invariant size) c.loop-c-test.true c.mark_byte.ensures

pub returns : goal.returns
returns c = all_settled _ c.requires (c.loop-c.invariant c.requires) c.loop-c-test.false
