-- `kinds::big_endian::put_two` meets its contract: two stores are one write.
-- Assumes nothing.
use native.Mathlib.Omega.{arith}
use lib.ListN.{length-set}
use Rattle.kinds.specs.Write.{write_two}
use Rattle.kinds.proofs.big_endian.put_two.Goals as goal

pub bounds-list-at-2 : goal.bounds-list-at-2
bounds-list-at-2 c = simp length-set (omega arith)

pub returns : goal.returns
returns c = write_two _ _ _ _
