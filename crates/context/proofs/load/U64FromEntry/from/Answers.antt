-- `u64::from` of an `Entry` meets its contract.
-- Assumes nothing.
use native.Mathlib.Omega.{arith}
use Rattle.context.specs.Tables.{word_of}
use Rattle.context.proofs.load.U64FromEntry.from.Goals as goal

pub returns : goal.returns
unfolding word_of
returns c = omega arith
