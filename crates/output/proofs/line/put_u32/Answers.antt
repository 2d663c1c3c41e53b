-- `output::line::put_u32` meets its contract: the high half, and after it the low one.
-- Assumes nothing.
use mathlib.Core.Path.{refl}
use Rattle.kinds.specs.BigEndian.{u16_bytes}
use Rattle.output.specs.Output.{u32_bytes}
use Rattle.output.proofs.Lines.{put_next}
use Rattle.output.proofs.line.put_u32.Goals as goal

pub returns : goal.returns
unfolding u32_bytes u16_bytes
returns c = put_next _ _ _ _ _ c.put_u16.ensures c.put_u16-2.ensures refl
