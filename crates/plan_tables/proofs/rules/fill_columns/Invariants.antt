-- `plan_tables::rules::fill_columns` meets its contract: the rules of the columns from k on stand there. Assumes nothing.
use Prim.Native.Nat.{ℕ, ◌≤◌}
use mathlib.Core.List.{List}
use Rattle.pool.specs.Entries.{entries_in}
use Rattle.pool.specs.Ranking.{Tabling}
use Rattle.plan_tables.specs.Rules.{ColumnRulesAsks}
use Rattle.plan_tables.proofs.Ruled.{RulesFrom}
use Rattle.plan_tables.proofs.rules.fill_columns.Given as goal

abbrev pub invariant-loop-k : goal.invariant-loop-k
invariant-loop-k v = (v.k ≤ v.count) × ((l : List ℕ) (n m : ℕ) (rank : ℕ → ℕ) → ColumnRulesAsks (Tabling v.nodes l v.expressions n m) rank (entries_in v.table) v.columns v.count v.initial.rules → RulesFrom (Tabling v.nodes l v.expressions n m) (entries_in v.table) v.cmdims v.columns v.count v.initial.rules v.k v.known v.rules)

abbrev pub decreases-loop-k : goal.decreases-loop-k
decreases-loop-k v = v.k
