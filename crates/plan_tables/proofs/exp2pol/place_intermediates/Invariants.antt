-- `plan_tables::exp2pol::place_intermediates` meets its contract: the records of the intermediates before i stand there. Assumes nothing.
use Prim.Native.Nat.{ℕ, ◌≤◌, ◌-◌}
use mathlib.Core.List.{List}
use lib.ListN.{get_or}
use Rattle.plans.specs.Plan.{im_count}
use Rattle.plan_tables.specs.Tables.{of_im, im_place}
use Rattle.plan_tables.specs.Cells.{Cells, ImsAsks}
use Rattle.plan_tables.proofs.exp2pol.place_intermediates.Given as goal

abbrev pub invariant-loop-i : goal.invariant-loop-i
invariant-loop-i l = (l.i ≤ im_count l.plan) × ((n : ℕ) (g : ℕ → ℕ) (before : List ℕ) → ImsAsks l.plan n g before l.initial.exp2pol → Cells n (λ x. of_im l.plan (λ j. get_or l.cms (im_place l.plan j) 0) x l.i (g x)) before l.exp2pol)

abbrev pub decreases-loop-i : goal.decreases-loop-i
decreases-loop-i l = l.count - l.i
