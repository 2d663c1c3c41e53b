-- `plan_tables::exp2pol::place_columns` meets its contract: the records of the columns from k on stand there. Assumes nothing.
use Prim.Native.Nat.{ℕ, ◌≤◌}
use lib.ListN.{get_or}
use Rattle.plan_tables.specs.Cells.{Cells}
use Rattle.plan_tables.specs.Records.{PlacesAsks}
use Rattle.plan_tables.proofs.Filled.{from_column}
use Rattle.plan_tables.proofs.exp2pol.place_columns.Given as goal

abbrev pub invariant-loop-k : goal.invariant-loop-k
invariant-loop-k l = (l.k ≤ l.count) × ((n : ℕ) → PlacesAsks n l.columns l.count l.initial.exp2pol → Cells n (from_column (λ e j. get_or l.temporaries j 0) (λ e. get_or l.initial.exp2pol e 0) l.columns l.count l.k) l.initial.exp2pol l.exp2pol)

abbrev pub decreases-loop-k : goal.decreases-loop-k
decreases-loop-k l = l.k
