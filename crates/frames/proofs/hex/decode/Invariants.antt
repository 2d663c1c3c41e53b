-- `frames::hex::decode` meets its contract. The loop's invariant: the bytes that are left, written after those that are written, are the whole.
-- Assumes nothing.
use Prim.Native.Nat.{◌-◌}
use Rattle.frames.proofs.Digits.{Decoded}
use Rattle.frames.proofs.hex.decode.Given as goal

abbrev pub invariant-loop-i : goal.invariant-loop-i
invariant-loop-i l = Decoded l.line l.initial.out l.n l.out l.i

abbrev pub decreases-loop-i : goal.decreases-loop-i
decreases-loop-i l = l.n - l.i
