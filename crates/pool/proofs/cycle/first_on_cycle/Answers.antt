-- `pool::cycle::first_on_cycle` meets its contract: the least is that of the leaves that lead back to an expression before e. Assumes nothing.
use native.Mathlib.Omega.{arith}
use Rattle.pool.proofs.Reaches.{none-back, one-back, all_back}
use Rattle.pool.proofs.cycle.first_on_cycle.Goals as goal

pub loop-e-init : goal.loop-e-init
loop-e-init c = (omega arith, λ l n a. none-back _ _ _)

pub least_back-least-requires : goal.least_back-least-requires
least_back-least-requires c = (c.requires, c.loop-e-test.true)

pub loop-e-smaller : goal.loop-e-smaller
loop-e-smaller c = omega arith

pub loop-e-preserved : goal.loop-e-preserved
loop-e-preserved c = (omega arith, λ l n a. one-back _ _ (c.loop-e.invariant.1 l n a) (c.least_back-least.ensures l n a))

pub returns : goal.returns
returns c = λ l n a. all_back _ _ a c.loop-e-test.false (c.loop-e.invariant.1 l n a)
