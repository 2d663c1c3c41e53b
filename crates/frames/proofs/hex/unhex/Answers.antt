-- `frames::hex::unhex` meets its contract.
-- Assumes nothing.
use Rattle.frames.proofs.Digits.{unhexed, not-unhexed}
use Rattle.frames.proofs.Tests.{via}
use Rattle.frames.proofs.hex.unhex.Goals as goal

pub returns-then-not-is_line : goal.returns-then-not-is_line
returns-then-not-is_line c = not-unhexed _ _ (via c.is_line.ensures c.if-not-is_line.true)

pub returns : goal.returns
returns c = unhexed _ (via c.is_line.ensures c.if-not-is_line.false) _ _ c.requires c.decode.ensures
