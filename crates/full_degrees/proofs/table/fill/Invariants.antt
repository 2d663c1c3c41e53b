-- `full_degrees::table::fill` meets its contract: up to node i the table is right. Assumes nothing.
use Prim.Native.Nat.{ℕ, ◌≤◌, ◌-◌}
use mathlib.Core.List.{List}
use Rattle.pool.specs.Ranking.{Tabling}
use Rattle.full_degrees.specs.Table.{World}
use Rattle.full_degrees.proofs.Nodes.{Upto}
use Rattle.full_degrees.proofs.table.fill.Given as goal

abbrev pub invariant-loop-i : goal.invariant-loop-i
invariant-loop-i v = (v.i ≤ v.n) × ((l : List ℕ) (rank : ℕ → ℕ) (a : World (Tabling v.nodes l v.expressions v.n v.m) rank) → Upto a v.full v.i)

abbrev pub decreases-loop-i : goal.decreases-loop-i
decreases-loop-i v = v.n - v.i
