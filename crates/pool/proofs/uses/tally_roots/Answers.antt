-- `pool::uses::tally_roots` meets its contract: the roots of the expressions below e are tallied. Assumes nothing.
use native.Mathlib.Omega.{arith}
use Rattle.pool.specs.Shapes.{root_uses_in}
use Rattle.pool.proofs.Tally.{roots-none, roots-more, all-tallied}
use Rattle.pool.proofs.uses.tally_roots.Goals as goal

pub loop-e-init : goal.loop-e-init
loop-e-init c = (omega arith, roots-none _ _)

pub root-requires : goal.root-requires
root-requires c = omega arith

pub tally-requires : goal.tally-requires
tally-requires c = tt

pub loop-e-smaller : goal.loop-e-smaller
loop-e-smaller c = omega arith

pub loop-e-preserved : goal.loop-e-preserved
loop-e-preserved c = (omega arith, roots-more _ _ c.loop-e.invariant.1 c.root.ensures c.tally.ensures)

pub returns : goal.returns
returns c = all-tallied (root_uses_in _) c.loop-e.invariant.0 c.loop-e-test.false c.loop-e.invariant.1
