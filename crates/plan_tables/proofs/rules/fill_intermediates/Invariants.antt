-- `plan_tables::rules::fill_intermediates` meets its contract: the rules of the intermediates before i stand there. Assumes nothing.
use Prim.Native.Nat.{ℕ, ◌≤◌, ◌-◌}
use mathlib.Core.List.{List}
use Rattle.kinds.specs.KindBytes as kind
use Rattle.plans.specs.Plan.{im_count, im_cm}
use Rattle.plan_tables.specs.Tables.{of_im, packed}
use Rattle.plan_tables.specs.Cells.{Cells, ImsAsks}
use Rattle.plan_tables.proofs.rules.fill_intermediates.Given as goal

abbrev pub invariant-loop-i : goal.invariant-loop-i
invariant-loop-i l = (l.i ≤ im_count l.plan) × ((n : ℕ) (g : ℕ → ℕ) (before : List ℕ) → ImsAsks l.plan n g before l.initial.rules → Cells n (λ x. of_im l.plan (λ j. packed kind.cm (im_cm l.plan j) 0) x l.i (g x)) before l.rules)

abbrev pub decreases-loop-i : goal.decreases-loop-i
decreases-loop-i l = l.count - l.i
