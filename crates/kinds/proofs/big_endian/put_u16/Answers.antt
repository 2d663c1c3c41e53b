-- `kinds::big_endian::put_u16` meets its contract.
-- Assumes nothing.
use Rattle.kinds.specs.BigEndian.{u16_bytes}
use Rattle.kinds.proofs.big_endian.put_u16.Goals as goal

pub returns : goal.returns
unfolding u16_bytes
returns c = c.put_two.ensures
