-- `output::line::put_u64` meets its contract: the high half, and after it the low one.
-- Assumes nothing.
use mathlib.Core.Path.{refl}
use Rattle.kinds.specs.BigEndian.{u16_bytes}
use Rattle.output.specs.Output.{u32_bytes, u64_bytes}
use Rattle.output.proofs.Lines.{put_next}
use Rattle.output.proofs.line.put_u64.Goals as goal

pub returns : goal.returns
unfolding u64_bytes u32_bytes u16_bytes
returns c = put_next _ _ _ _ _ c.put_u32.ensures c.put_u32-2.ensures refl
