-- `context::check::total_steps` meets its contract: the steps of the blocks before k are added up.
-- Assumes nothing.
use Prim.Native.Nat.{◌≤◌, ◌-◌, ◌*◌}
use mathlib.Core.Path.{◌≡◌}
use Rattle.context.specs.Context.{blocks_in, steps_before}
use Rattle.context.proofs.check.total_steps.Given as goal

abbrev pub invariant-loop-k : goal.invariant-loop-k
invariant-loop-k l = (l.n ≡ blocks_in l.context) × (l.k ≤ l.n) × (l.steps ≡ steps_before l.context l.k) × (l.steps ≤ 65535 * l.k)

abbrev pub decreases-loop-k : goal.decreases-loop-k
decreases-loop-k l = l.n - l.k
