-- `output::line::put_u16` meets its contract: its writes, each where the one before it ends, are one.
-- Assumes nothing.
use mathlib.Core.Path.{refl}
use Rattle.kinds.specs.BigEndian.{u16_bytes}
use Rattle.output.proofs.Lines.{put_next}
use Rattle.output.proofs.line.put_u16.Goals as goal

pub returns : goal.returns
unfolding u16_bytes
returns c = put_next _ _ _ _ _ c.put_byte.ensures c.put_byte-2.ensures refl
