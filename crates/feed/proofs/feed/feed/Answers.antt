-- `feed::feed::feed` meets its contract. The loop's invariant: the bytes passed are fed.
-- Assumes nothing.
use native.Mathlib.Omega.{arith}
use Rattle.std.proofs.lemmas.Result.{err_from_is_err_and}
use Rattle.feed.proofs.Feeds.{through_none, through_end, through_more, through_lost}
use Rattle.feed.proofs.feed.feed.Goals as goal

pub loop-b-init : goal.loop-b-init
loop-b-init c = through_none _ _ _ _

pub feed_byte-requires : goal.feed_byte-requires
feed_byte-requires c = (_, c.loop-b.invariant.so_far c.requires.0 c.requires.1)

pub returns-in_err-at : goal.returns-in_err-at
returns-in_err-at c = let p = err_from_is_err_and c.from_residual.result c.from_residual.ensures.1 in λ t w. rw (p.1, p.2) (through_lost _ _ _ _ _ _ _ _ c.loop-b.invariant c.loop-b-test.true _ _ _ c.feed_byte.ensures _ c.in_err-at.was t w)

pub loop-b-smaller : goal.loop-b-smaller
loop-b-smaller c = omega (arith, c.loop-b-test.true)

pub loop-b-preserved : goal.loop-b-preserved
loop-b-preserved c = through_more _ _ _ _ _ _ _ _ c.loop-b.invariant c.loop-b-test.true _ _ _ c.feed_byte.ensures _ c.in_ok-at.was

pub returns : goal.returns
returns c = through_end _ _ _ _ _ _ _ _ c.loop-b.invariant c.loop-b-test.false
