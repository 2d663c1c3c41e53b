-- `pool::cycle::first_on_cycle` meets its contract: the least is that of the leaves that lead back to an expression before e. Assumes nothing.
use Prim.Native.Nat.{ℕ, ◌≤◌, ◌-◌}
use mathlib.Core.List.{List}
use Rattle.pool.specs.Entries.{entries_in}
use Rattle.pool.specs.Ranking.{Tabling, Starts}
use Rattle.pool.specs.Cycles.{LeastOf}
use Rattle.pool.proofs.Reaches.{BackBelow}
use Rattle.pool.proofs.cycle.first_on_cycle.Given as goal

abbrev pub invariant-loop-e : goal.invariant-loop-e
invariant-loop-e v = (v.e ≤ v.m) × ((l : List ℕ) (n : ℕ) (a : Starts (Tabling v.nodes l v.expressions n v.m) (entries_in v.table)) → LeastOf (BackBelow (Tabling v.nodes l v.expressions n v.m) (entries_in v.table) v.e) 4096 v.least)

abbrev pub decreases-loop-e : goal.decreases-loop-e
decreases-loop-e v = v.m - v.e
