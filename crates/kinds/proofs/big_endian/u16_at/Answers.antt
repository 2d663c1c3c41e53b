-- `kinds::big_endian::u16_at` meets its contract.
-- Assumes nothing.
use Rattle.kinds.specs.BigEndian.{u16_at}
use Rattle.kinds.proofs.big_endian.u16_at.Goals as goal

pub returns : goal.returns
unfolding u16_at
returns c = c.u16_of.ensures
