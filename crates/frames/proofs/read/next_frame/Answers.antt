use Rattle.frames.proofs.read.next_frame.Goals as goal
use Rattle.frames.proofs.Loops.{next_short, next_long, next_is}

-- `frames::read::next_frame` meets its contract: each answer by the tests that led to it.
-- Assumes nothing.

pub returns-then-s-at-lt2 : goal.returns-then-s-at-lt2
returns-then-s-at-lt2 c = next_short _ _ c.if-s-at-lt2.true c.requires

pub returns-then-s-from : goal.returns-then-s-from
returns-then-s-from c = next_long _ _ _ c.u16_at-n.ensures c.if-s-at-lt2.false c.if-s-from.true

pub returns : goal.returns
returns c = next_is _ _ _ c.u16_at-n.ensures c.if-s-at-lt2.false c.if-s-from.false
