-- `constraint_lists::plan::fill_requests` meets its contract: the first k requests are filled in.
-- Assumes nothing.
use native.Mathlib.Omega.{arith}
use Rattle.constraint_lists.proofs.Requested.{none_filled, one-filled, all-filled}
use Rattle.constraint_lists.proofs.plan.fill_requests.Goals as goal

pub loop-k-init : goal.loop-k-init
loop-k-init c = none_filled c.requires

pub offset_bounds-asked-k : goal.offset_bounds-asked-k
offset_bounds-asked-k c = omega (arith, c.loop-k-test.true, c.requires.few)

pub bounds-asked-k : goal.bounds-asked-k
bounds-asked-k c = omega (arith, c.loop-k-test.true, c.requires.few)

pub overflow_cast-request : goal.overflow_cast-request
overflow_cast-request c = omega (arith, c.requires.small _ c.loop-k-test.true)

pub put_request-requires : goal.put_request-requires
put_request-requires c = omega (arith, c.loop-k-test.true, c.requires.few)

pub loop-k-smaller : goal.loop-k-smaller
loop-k-smaller c = omega (arith, c.loop-k-test.true, c.requires.few)

pub loop-k-preserved : goal.loop-k-preserved
loop-k-preserved c = one-filled c.requires c.loop-k.invariant c.loop-k-test.true c.put_request.ensures

pub returns : goal.returns
returns c = all-filled c.requires c.loop-k.invariant c.loop-k-test.false
