-- `constraint_pool::measure::members_size` meets its contract: the size of the first k members.
-- Assumes nothing.
use native.Mathlib.Omega.{arith}
use Rattle.constraint_pool.proofs.Measures.{capped_small, size_none, size-all, root-room, body-asks, size-more}
use Rattle.constraint_pool.proofs.measure.members_size.Goals as goal

pub loop-e-init : goal.loop-e-init
loop-e-init c = (omega arith, λ l n m a. size_none _)

pub root-body-requires : goal.root-body-requires
root-body-requires c = root-room c.requires.3 c.loop-e-test.true

pub tree_size-requires : goal.tree_size-requires
tree_size-requires c = let P = c.requires in (P.0, _, P.1, P.2, body-asks P.3 c.loop-e-test.true c.root-body.ensures)

pub overflow_add-size : goal.overflow_add-size
overflow_add-size c = let P = c.requires in omega (arith, c.loop-e-test.true, capped_small _ _ (c.loop-e.invariant.1 P.0 P.1 P.2 P.3), capped_small _ _ (c.tree_size.ensures P.0 _ P.1 P.2 (body-asks P.3 c.loop-e-test.true c.root-body.ensures)))

pub overflow_add-size-in-loop-e : goal.overflow_add-size-in-loop-e
overflow_add-size-in-loop-e c = let P = c.requires in omega (arith, c.loop-e-test.true, capped_small _ _ (c.loop-e.invariant.1 P.0 P.1 P.2 P.3), capped_small _ _ (c.tree_size.ensures P.0 _ P.1 P.2 (body-asks P.3 c.loop-e-test.true c.root-body.ensures)))

pub loop-e-smaller : goal.loop-e-smaller
loop-e-smaller c = omega (arith, c.loop-e-test.true)

pub loop-e-preserved : goal.loop-e-preserved
loop-e-preserved c = (omega (arith, c.loop-e-test.true), λ l n m a. size-more a c.loop-e-test.true c.root-body.ensures (c.loop-e.invariant.1 l n m a) (c.tree_size.ensures l _ n m (body-asks a c.loop-e-test.true c.root-body.ensures)) c.capped-size.ensures)

pub returns : goal.returns
returns c = λ l n m a. size-all _ _ _ _ (c.loop-e.invariant.1 l n m a) c.loop-e-test.false
