-- `feed::feed::keep` meets its contract.
-- Assumes nothing.
use mathlib.Core.Path.{refl}
use Rattle.feed.proofs.Feeds.{keeps-full, keeps-more}
use Rattle.feed.proofs.feed.keep.Goals as goal

pub returns-then-p-ge-LINE_ROOM : goal.returns-then-p-ge-LINE_ROOM
returns-then-p-ge-LINE_ROOM c = keeps-full _ _ _ c.if-p-ge-LINE_ROOM.true

pub returns : goal.returns
returns c = keeps-more _ c.args.p _ c.if-p-ge-LINE_ROOM.false _ refl refl
