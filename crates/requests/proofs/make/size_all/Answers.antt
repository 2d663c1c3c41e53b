-- `requests::make::size_all` meets its contract: the steps of the jobs before k are counted.
-- Assumes nothing.
use native.Mathlib.Omega.{arith}
use Rattle.requests.proofs.Makes.{one-asks, nth_job, none-counted, one-counted, all-counted}
use Rattle.requests.proofs.make.size_all.Goals as goal

pub loop-k-init : goal.loop-k-init
loop-k-init c = λ b js a. none-counted _ _ b js a

pub offset_bounds-jobs-k : goal.offset_bounds-jobs-k
offset_bounds-jobs-k c = omega (arith, c.loop-k-test.true, c.requires.2.few)

pub bounds-jobs-k : goal.bounds-jobs-k
bounds-jobs-k c = omega (arith, c.loop-k-test.true, c.requires.2.few, c.requires.2.size)

pub size_one-steps-requires : goal.size_one-steps-requires
size_one-steps-requires c = (c.requires.0, nth_job c.requires.1 c.loop-k.k, one-asks _ _ c.requires.0 c.requires.1 c.requires.2 c.loop-k-test.true)

pub overflow_add-steps : goal.overflow_add-steps
overflow_add-steps c = let P = c.requires in omega (arith, (c.loop-k.invariant P.0 P.1 P.2).small, c.loop-k-test.true, P.2.few, (c.size_one-steps.ensures P.0 (nth_job P.1 c.loop-k.k) (one-asks _ _ P.0 P.1 P.2 c.loop-k-test.true)).1)

pub loop-k-smaller : goal.loop-k-smaller
loop-k-smaller c = omega (arith, c.loop-k-test.true)

pub loop-k-preserved : goal.loop-k-preserved
loop-k-preserved c = λ b js a. one-counted _ _ b js a (c.loop-k.invariant b js a) c.loop-k-test.true (c.size_one-steps.ensures b (nth_job js c.loop-k.k) (one-asks _ _ b js a c.loop-k-test.true))

pub returns : goal.returns
returns c = λ b js a. all-counted _ _ b js a (c.loop-k.invariant b js a) c.loop-k-test.false
