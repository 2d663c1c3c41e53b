-- `constraint_pool::extend::add_members` meets its contract: the first k members are added.
-- Assumes nothing.
use native.Mathlib.Omega.{arith}
use Rattle.constraint_pool.proofs.Loops.{members-none, members-all, member-root, member-asks, members-more}
use Rattle.constraint_pool.proofs.extend.add_members.Goals as goal

pub loop-k-init : goal.loop-k-init
loop-k-init c = (omega arith, λ n m a. members-none _ _ _ _ _ _)

pub offset_bounds-members-k : goal.offset_bounds-members-k
offset_bounds-members-k c = omega (arith, c.loop-k-test.true, c.requires.2.columns)

pub bounds-members-k : goal.bounds-members-k
bounds-members-k c = omega (arith, c.loop-k-test.true, c.requires.2.columns)

pub root-body-requires : goal.root-body-requires
root-body-requires c = member-root c.requires.2 c.loop-k-test.true

pub overflow_add-cm : goal.overflow_add-cm
overflow_add-cm c = omega (arith, c.loop-k-test.true, c.requires.2.columns)

pub overflow_cast-cm : goal.overflow_cast-cm
overflow_cast-cm c = omega (arith, c.loop-k-test.true, c.requires.2.columns)

pub add_member-next-requires : goal.add_member-next-requires
add_member-next-requires c = let P = c.requires in (_, P.0, P.1, member-asks P.2 (c.loop-k.invariant.1 P.0 P.1 P.2) c.loop-k-test.true c.root-body.ensures)

pub loop-k-smaller : goal.loop-k-smaller
loop-k-smaller c = omega (arith, c.loop-k-test.true, c.requires.2.columns)

pub loop-k-preserved : goal.loop-k-preserved
loop-k-preserved c = (omega (arith, c.loop-k-test.true), λ n m a. members-more a (c.loop-k.invariant.1 n m a) c.loop-k-test.true c.root-body.ensures (c.add_member-next.ensures _ n m (member-asks a (c.loop-k.invariant.1 n m a) c.loop-k-test.true c.root-body.ensures)))

pub returns : goal.returns
returns c = λ n m a. members-all _ _ _ _ _ _ (c.loop-k.invariant.1 n m a) c.loop-k-test.false
