-- `pool_frames::frame::put_u64` meets its contract: its writes, each where the one before it ends, are one.
-- Assumes nothing.
use mathlib.Core.Path.{refl}
use Rattle.kinds.specs.Write.{write-next}
use Rattle.kinds.specs.BigEndian.{u16_bytes}
use Rattle.frames.specs.Written.{u64_bytes}
use Rattle.pool_frames.proofs.frame.put_u64.Goals as goal

pub returns : goal.returns
unfolding u64_bytes u16_bytes
returns c = let e1 = write-next _ _ _ _ _ c.put_u16.ensures c.put_u16-2.ensures refl in
    let e2 = write-next _ _ _ _ _ e1 c.put_u16-3.ensures refl in
    write-next _ _ _ _ _ e2 c.put_u16-4.ensures refl
