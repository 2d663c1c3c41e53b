use Rattle.feed.proofs.feed.finish.Goals as goal
use lib.ListN.{length-take}
-- `feed::feed::finish` meets its contract: the line that has not ended, if there is one, is taken.
-- Assumes nothing.
use native.Mathlib.Omega.{arith}
use Rattle.feed.specs.Laws.{held-few}
use Rattle.feed.proofs.Feeds.{end_none, end_line}

pub returns-then-p-eq0 : goal.returns-then-p-eq0
returns-then-p-eq0 c = λ t w. end_none t _ _ _ w c.if-p-eq0.true

pub slice_bounds-take_line-end : goal.slice_bounds-take_line-end
slice_bounds-take_line-end c = simp length-take (omega (arith, held-few c.requires.1.kept, c.requires.1.kept.room))

pub returns : goal.returns
returns c = λ t w. end_line t _ _ _ w c.if-p-eq0.false _ _ c.take_line.ensures
