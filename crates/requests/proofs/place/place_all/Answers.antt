-- `requests::place::place_all` meets its contract: the words of the jobs before k stand in the table.
-- Assumes nothing.
use native.Mathlib.Omega.{arith}
use Rattle.requests.proofs.Makes.{one-asks, nth_job, word_small}
use Rattle.requests.proofs.Places.{none-placed, one_placed, all_placed, word-is}
use Rattle.requests.proofs.place.place_all.Goals as goal

pub loop-k-init : goal.loop-k-init
loop-k-init c = λ b js a. none-placed _ _ b js a

pub offset_bounds-jobs-k : goal.offset_bounds-jobs-k
offset_bounds-jobs-k c = omega (arith, c.loop-k-test.true, c.requires.2.room)

pub bounds-jobs-k : goal.bounds-jobs-k
bounds-jobs-k c = omega (arith, c.loop-k-test.true, c.requires.2.room)

pub size_one-steps-requires : goal.size_one-steps-requires
size_one-steps-requires c = let P = c.requires in (P.0, nth_job P.1 c.loop-k.k, one-asks _ _ P.0 P.1 P.2.jobs c.loop-k-test.true)

pub overflow_mul-words : goal.overflow_mul-words
overflow_mul-words c = let P = c.requires in omega (arith, (c.size_one-steps.ensures P.0 (nth_job P.1 c.loop-k.k) (one-asks _ _ P.0 P.1 P.2.jobs c.loop-k-test.true)).1)

pub overflow_add-words : goal.overflow_add-words
overflow_add-words c = let P = c.requires in let o = one-asks _ _ P.0 P.1 P.2.jobs c.loop-k-test.true in omega (arith, (c.size_one-steps.ensures P.0 (nth_job P.1 c.loop-k.k) o).1, word_small _ _ P.0 (nth_job P.1 c.loop-k.k) o)

pub overflow_add-words-in-loop-k : goal.overflow_add-words-in-loop-k
overflow_add-words-in-loop-k c = omega (arith, c.loop-k-test.true, c.requires.2.room)

pub offset_bounds-words-from : goal.offset_bounds-words-from
offset_bounds-words-from c = omega (arith, c.loop-k-test.true, c.requires.2.room)

pub bounds-words-from : goal.bounds-words-from
bounds-words-from c = omega (arith, c.loop-k-test.true, c.requires.2.room)

pub loop-k-smaller : goal.loop-k-smaller
loop-k-smaller c = omega (arith, c.loop-k-test.true)

pub loop-k-preserved : goal.loop-k-preserved
loop-k-preserved c = λ b js a. let o = one-asks _ _ b js a.jobs c.loop-k-test.true in one_placed _ _ b js a (c.loop-k.invariant b js a) c.loop-k-test.true (word-is o (c.size_one-steps.ensures b (nth_job js c.loop-k.k) o).0)

pub returns : goal.returns
returns c = λ b js a. all_placed _ _ b js a (c.loop-k.invariant b js a) c.loop-k-test.false
