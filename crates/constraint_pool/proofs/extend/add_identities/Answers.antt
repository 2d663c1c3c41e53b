-- `constraint_pool::extend::add_identities` meets its contract: the first k identities are added.
-- Assumes nothing.
use native.Mathlib.Omega.{arith}
use Rattle.constraint_pool.proofs.Loops.{identities-none, identity-asks, identities-more, identities-all}
use Rattle.constraint_pool.proofs.extend.add_identities.Goals as goal

pub loop-e-init : goal.loop-e-init
loop-e-init c = (omega arith, identities-none _ _ _ _)

pub overflow_cast-e : goal.overflow_cast-e
overflow_cast-e c = omega (arith, c.requires.small _ c.loop-e-test.true)

pub add_identity-next-requires : goal.add_identity-next-requires
add_identity-next-requires c = identity-asks _ _ _ _ c.loop-e.invariant.1 c.loop-e-test.true c.requires

pub loop-e-smaller : goal.loop-e-smaller
loop-e-smaller c = omega (arith, c.loop-e-test.true, c.requires.room)

pub loop-e-preserved : goal.loop-e-preserved
loop-e-preserved c = (omega (arith, c.loop-e-test.true), identities-more _ _ _ _ c.loop-e.invariant.1 c.loop-e-test.true c.add_identity-next.ensures)

pub returns : goal.returns
returns c = identities-all _ _ _ _ c.loop-e.invariant.1 c.loop-e-test.false
