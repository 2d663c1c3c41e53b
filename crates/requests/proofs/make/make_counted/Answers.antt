-- `requests::make::make_counted` meets its contract: what is left, written after what stands, is the whole.
-- Assumes nothing.
use native.Mathlib.Omega.{arith}
use Rattle.requests.proofs.Makes.{nth_job, one-asks, begin, one-room, grows, again, end_is, finish}
use Rattle.requests.proofs.make.make_counted.Goals as goal

pub loop-k-init : goal.loop-k-init
loop-k-init c = λ b js a o. begin _ _ b js a _ o

pub offset_bounds-jobs-k : goal.offset_bounds-jobs-k
offset_bounds-jobs-k c = omega (arith, c.loop-k-test.true, c.requires.2.few)

pub bounds-jobs-k : goal.bounds-jobs-k
bounds-jobs-k c = omega (arith, c.loop-k-test.true, c.requires.2.few, c.requires.2.size)

pub make_one-steps-requires : goal.make_one-steps-requires
make_one-steps-requires c = let P = c.requires in (P.0, nth_job P.1 c.loop-k.k, one-asks _ _ P.0 P.1 P.2 c.loop-k-test.true, one-room _ _ P.0 P.1 P.2 _ P.3 (c.loop-k.invariant P.0 P.1 P.2 P.3) c.loop-k-test.true)

pub overflow_add-at : goal.overflow_add-at
overflow_add-at c = let P = c.requires in let g = grows _ _ P.0 P.1 P.2 _ P.3 (c.loop-k.invariant P.0 P.1 P.2 P.3) c.loop-k-test.true (c.make_one-steps.ensures P.0 (nth_job P.1 c.loop-k.k) (one-asks _ _ P.0 P.1 P.2 c.loop-k-test.true) (one-room _ _ P.0 P.1 P.2 _ P.3 (c.loop-k.invariant P.0 P.1 P.2 P.3) c.loop-k-test.true)) in omega (arith, g.0, c.well_formed)

pub overflow_sub-t : goal.overflow_sub-t
overflow_sub-t c = let P = c.requires in (grows _ _ P.0 P.1 P.2 _ P.3 (c.loop-k.invariant P.0 P.1 P.2 P.3) c.loop-k-test.true (c.make_one-steps.ensures P.0 (nth_job P.1 c.loop-k.k) (one-asks _ _ P.0 P.1 P.2 c.loop-k-test.true) (one-room _ _ P.0 P.1 P.2 _ P.3 (c.loop-k.invariant P.0 P.1 P.2 P.3) c.loop-k-test.true))).1

pub overflow_add-t : goal.overflow_add-t
overflow_add-t c = let P = c.requires in let g = grows _ _ P.0 P.1 P.2 _ P.3 (c.loop-k.invariant P.0 P.1 P.2 P.3) c.loop-k-test.true (c.make_one-steps.ensures P.0 (nth_job P.1 c.loop-k.k) (one-asks _ _ P.0 P.1 P.2 c.loop-k-test.true) (one-room _ _ P.0 P.1 P.2 _ P.3 (c.loop-k.invariant P.0 P.1 P.2 P.3) c.loop-k-test.true)) in omega (arith, g.2)

pub loop-k-smaller : goal.loop-k-smaller
loop-k-smaller c = omega (arith, c.loop-k-test.true)

pub loop-k-preserved : goal.loop-k-preserved
loop-k-preserved c = λ b js a o. again _ _ b js a _ o (c.loop-k.invariant b js a o) c.loop-k-test.true (c.make_one-steps.ensures b (nth_job js c.loop-k.k) (one-asks _ _ b js a c.loop-k-test.true) (one-room _ _ b js a _ o (c.loop-k.invariant b js a o) c.loop-k-test.true)) c.make_one-steps.auto.list

pub shape_of-list : goal.shape_of-list
shape_of-list c = let P = c.requires in (c.loop-k.invariant P.0 P.1 P.2 P.3).size

pub returns : goal.returns
returns c = λ b js a o. (finish _ _ b js a _ o (c.loop-k.invariant b js a o) c.loop-k-test.false, end_is _ _ b js a _ o (c.loop-k.invariant b js a o) c.loop-k-test.false)
