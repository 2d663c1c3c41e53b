-- `feed::feed::feed_byte` meets its contract.
-- Assumes nothing.
use Rattle.feed.proofs.Feeds.{byte-kept}
use Rattle.feed.proofs.feed.feed_byte.Goals as goal

pub returns-then-b-eq10 : goal.returns-then-b-eq10
returns-then-b-eq10 c = rw c.if-b-eq10.true c.end_line.ensures

pub returns : goal.returns
returns c = λ t w. byte-kept _ _ _ t _ w c.if-b-eq10.false _ _ c.keep.ensures
