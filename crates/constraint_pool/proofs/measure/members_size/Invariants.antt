-- `constraint_pool::measure::members_size` meets its contract: the size of the first k members.
-- Assumes nothing.
use Prim.Native.Nat.{ℕ, ◌-◌, ◌≤◌, min}
use mathlib.Core.Path.{◌≡◌}
use mathlib.Core.List.{List}
use lib.ListN.{length, take}
use Rattle.pool.specs.Tabled.{tabled}
use Rattle.pool.specs.Ranking.{Tabling}
use Rattle.constraint_pool.specs.Sizes.{over, members_size, MembersSizeAsks}
use Rattle.constraint_pool.proofs.measure.members_size.Given as goal

abbrev pub invariant-loop-e : goal.invariant-loop-e
invariant-loop-e v = (v.e-index ≤ length v.members) × ((l : List ℕ) (n m : ℕ) → MembersSizeAsks v.nodes l v.expressions v.members n m → v.size ≡ min over (members_size (tabled (Tabling v.nodes l v.expressions n m)) (take v.e-index v.members)))

abbrev pub decreases-loop-e : goal.decreases-loop-e
decreases-loop-e v = length v.members - v.e-index
