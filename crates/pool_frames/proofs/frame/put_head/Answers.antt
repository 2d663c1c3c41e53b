-- `pool_frames::frame::put_head` meets its contract: its writes, each where the one before it ends, are one.
-- Assumes nothing.
use mathlib.Core.Path.{refl}
use Rattle.kinds.specs.Write.{write-next}
use Rattle.kinds.specs.BigEndian.{u16_bytes}
use Rattle.pool_frames.specs.Frames.{head_bytes}
use Rattle.pool_frames.proofs.frame.put_head.Goals as goal

pub returns : goal.returns
unfolding head_bytes u16_bytes
returns c = let e1 = write-next _ _ (u16_bytes c.args.size) _ _ c.put_u16.ensures c.put_two.ensures refl in
    let e2 = write-next _ _ _ _ _ e1 c.put_two-2.ensures refl in
    write-next _ _ _ _ _ e2 c.put_two-3.ensures refl
