-- `frames::hex::decode` meets its contract. The loop's invariant: the bytes that are left, written after those that are written, are the whole.
-- Assumes nothing.
use native.Mathlib.Omega.{arith}
use Rattle.frames.proofs.Digits.{line, decode_digit, decode_more, decode_end}
use Rattle.frames.proofs.hex.decode.Goals as goal

pub pair-requires : goal.pair-requires
pair-requires c = decode_digit _ c.requires _ _ _ _ c.loop-i.invariant c.loop-i-test.true

pub bounds-out-i : goal.bounds-out-i
bounds-out-i c = omega (arith, c.loop-i.invariant.half, c.loop-i.invariant.inside, c.loop-i-test.true, line _ c.requires)

pub loop-i-preserved : goal.loop-i-preserved
loop-i-preserved c = decode_more _ c.requires _ _ _ _ c.loop-i.invariant c.loop-i-test.true _ c.pair.ensures

pub returns : goal.returns
returns c = decode_end _ c.requires _ _ _ _ c.loop-i.invariant c.loop-i-test.false
