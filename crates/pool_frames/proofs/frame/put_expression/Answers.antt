-- `pool_frames::frame::put_expression` meets its contract: its writes, each where the one before it ends, are one.
-- Assumes nothing.
use mathlib.Core.Path.{refl}
use Rattle.kinds.specs.Write.{write-next}
use Rattle.kinds.specs.BigEndian.{u16_bytes}
use Rattle.frames.specs.Written.{expression_bytes}
use Rattle.pool_frames.specs.Frames.{framed}
use Rattle.pool_frames.proofs.frame.put_expression.Goals as goal

pub returns : goal.returns
unfolding framed expression_bytes u16_bytes
returns c = let e1 = write-next _ _ _ _ _ c.put_u16.ensures c.put_two.ensures refl in
    record { list = write-next _ _ _ _ _ e1 c.put_two-2.ensures refl; next = refl }
