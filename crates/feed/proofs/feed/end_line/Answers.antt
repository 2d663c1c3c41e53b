use Rattle.std.proofs.lemmas.Result.{err_from_is_err_and}
use Rattle.feed.proofs.feed.end_line.Goals as goal
use lib.ListN.{length-take}
-- `feed::feed::end_line` meets its contract: the line is taken, and none is open after it.
-- Assumes nothing.
use native.Mathlib.Omega.{arith}
use Rattle.feed.specs.Laws.{held-few}
use Rattle.feed.proofs.Feeds.{line-lost, line-fed}

pub slice_bounds-take_line-end : goal.slice_bounds-take_line-end
slice_bounds-take_line-end c = simp length-take (omega (arith, held-few c.requires.1.kept, c.requires.1.kept.room))

pub returns-in_err-counts : goal.returns-in_err-counts
returns-in_err-counts c = let p = err_from_is_err_and c.from_residual.result c.from_residual.ensures.1 in λ t w. rw (p.1, p.2) (line-lost t _ _ _ w _ _ c.take_line.ensures _ c.in_err-counts.was)

pub returns : goal.returns
returns c = λ t w. line-fed t _ _ _ w _ _ c.take_line.ensures _ c.in_ok-counts.was
