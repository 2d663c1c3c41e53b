-- `map_records::lookups::map_lookups` meets its contract: the first i pu are mapped. Assumes nothing.
use Prim.Native.Nat.{ℕ, ◌≤◌, ◌-◌}
use mathlib.Core.List.{List}
use Rattle.pool.specs.Entries.{entries_in}
use Rattle.pool.specs.Tabled.{tabled}
use Rattle.pool.specs.Ranking.{Tabling}
use Rattle.plans.specs.Plan.{pu_count}
use Rattle.map_records.specs.Mapping.{lookups}
use Rattle.map_records.specs.Tables.{Begun, State}
use Rattle.map_records.proofs.lookups.map_lookups.Given as goal

abbrev pub invariant-loop-i : goal.invariant-loop-i
invariant-loop-i v = (v.i ≤ pu_count v.plan) × ((l : List ℕ) (k m : ℕ) (rank : ℕ → ℕ) → Begun v.plan (Tabling v.nodes l v.expressions k m) rank (entries_in v.table) v.initial.sections v.initial.dims v.initial.cmdims v.initial.seen v.before (lookups v.plan (tabled (Tabling v.nodes l v.expressions k m)) 0) → State v.plan v.sections v.dims v.cmdims v.seen v.n (lookups v.plan (tabled (Tabling v.nodes l v.expressions k m)) v.i))

abbrev pub decreases-loop-i : goal.decreases-loop-i
decreases-loop-i v = v.count - v.i
