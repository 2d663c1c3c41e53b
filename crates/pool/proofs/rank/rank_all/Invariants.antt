-- `pool::rank::rank_all` meets its contract: every expression before e is ranked and none is being followed. Assumes nothing.
use Prim.Native.Nat.{ℕ, ◌≤◌, ◌-◌}
use mathlib.Core.List.{List}
use Rattle.pool.specs.Entries.{entries_in}
use Rattle.pool.specs.Ranking.{Tabling, Starts}
use Rattle.pool.proofs.AllRanks.{Progress}
use Rattle.pool.proofs.rank.rank_all.Given as goal

abbrev pub invariant-loop-e : goal.invariant-loop-e
invariant-loop-e v = (l : List ℕ) (n : ℕ) → Starts (Tabling v.nodes l v.expressions n v.m) (entries_in v.table) → (v.e ≤ v.m) × Progress (Tabling v.nodes l v.expressions n v.m) (entries_in v.table) v.ranks v.done v.e

abbrev pub decreases-loop-e : goal.decreases-loop-e
decreases-loop-e v = v.m - v.e
