-- `plans::count::mark_intermediates` meets its contract: the table tells the intermediates before i. Assumes nothing.
use Prim.Native.Nat.{ℕ, ◌≤◌, ◌-◌}
use Rattle.plans.specs.Plan.{im_count}
use Prim.Native.Nat.{ℕ, ◌≤◌, ◌-◌}
use Rattle.plans.specs.Plan.{im_count}
use Rattle.plans.specs.Counting.{MarkAsks, Tells}
use Rattle.plans.specs.Counts.{im_before}
use Rattle.plans.proofs.count.mark_intermediates.Given as goal

abbrev pub invariant-loop-i : goal.invariant-loop-i
invariant-loop-i l = (l.i ≤ im_count l.plan) × ((size : ℕ) → MarkAsks size l.plan l.initial.seen → Tells size (im_before l.plan l.i) l.seen)

abbrev pub decreases-loop-i : goal.decreases-loop-i
decreases-loop-i l = l.n - l.i
