-- `steps::print_lines` is safe: each line fits, and the page keeps its size.
-- Assumes nothing.
use Prim.Native.Nat.{◌+◌, ◌-◌, ◌≤◌}
use mathlib.Core.Path.{◌≡◌}
use lib.ListN.{length}
use Rattle.steps.proofs.print_lines.Given as goal

abbrev pub invariant-loop-k : goal.invariant-loop-k
invariant-loop-k g l = (65536 ≡ length l.page) × (91 ≡ length l.line) × (l.used ≤ 65536) × (l.k ≤ l.s.steps + 1)

abbrev pub decreases-loop-k : goal.decreases-loop-k
decreases-loop-k g l = l.s.steps + 1 - l.k
