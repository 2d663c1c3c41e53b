-- `replay_pool::main` is safe and ends. Assumes nothing.
use Prim.Native.Nat.{◌-◌, ◌≤◌}
use mathlib.Core.Path.{◌≡◌}
use lib.ListN.{length}
use Rattle.replay_pool.proofs.main.Given as goal

abbrev pub invariant-loop-turn : goal.invariant-loop-turn
invariant-loop-turn l = (l.turn ≤ 4096) × (length l.name ≡ 4096) × (length l.input ≡ 65536)

abbrev pub decreases-loop-turn : goal.decreases-loop-turn
decreases-loop-turn l = 4096 - l.turn
