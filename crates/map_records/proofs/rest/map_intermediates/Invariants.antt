-- `map_records::rest::map_intermediates` meets its contract: the first i intermediates are mapped. Assumes nothing.
use Prim.Native.Nat.{ℕ, ◌+◌, ◌*◌, ◌≤◌, ◌-◌}
use mathlib.Core.List.{List}
use Rattle.pool.specs.Entries.{entries_in}
use Rattle.pool.specs.Tabled.{tabled}
use Rattle.pool.specs.Ranking.{Tabling}
use Rattle.plans.specs.Plan.{im_count}
use Rattle.map_records.specs.Mapping.{intermediates}
use Rattle.map_records.specs.Tables.{Holds, ImAsks}
use Rattle.map_records.proofs.rest.map_intermediates.Given as goal

abbrev pub invariant-loop-i : goal.invariant-loop-i
invariant-loop-i v = (v.i ≤ im_count v.plan) × ((l : List ℕ) (k m : ℕ) (rank : ℕ → ℕ) → ImAsks v.plan (Tabling v.nodes l v.expressions k m) rank (entries_in v.table) v.initial.sections v.initial.dims v.initial.cmdims v.before → Holds v.sections v.dims v.cmdims (v.before + 2 * v.i) (intermediates v.plan (tabled (Tabling v.nodes l v.expressions k m)) v.i))

abbrev pub decreases-loop-i : goal.decreases-loop-i
decreases-loop-i v = v.count - v.i
