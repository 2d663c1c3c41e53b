-- `constraint_pool::extend::add_members` meets its contract: the first k members are added.
-- Assumes nothing.
use Prim.Native.Nat.{ℕ, ◌-◌, ◌≤◌}
use lib.ListN.{length, take}
use Rattle.pool.specs.Tabled.{tabled}
use Rattle.pool.specs.Ranking.{Tabling}
use Rattle.constraint_pool.specs.Nodes.{members_nodes}
use Rattle.constraint_pool.specs.Asked.{Appends}
use Rattle.constraint_pool.specs.Whole.{MembersAsk}
use Rattle.constraint_pool.proofs.extend.add_members.Given as goal

abbrev pub invariant-loop-k : goal.invariant-loop-k
invariant-loop-k l = (l.k ≤ length l.members) × ((n m : ℕ) → MembersAsk l.initial.nodes l.initial.literals l.expressions n m l.members l.at l.vc l.cm → Appends l.initial.nodes l.initial.literals l.at (members_nodes (tabled (Tabling l.initial.nodes l.initial.literals l.expressions n m)) l.vc l.at l.cm (take l.k l.members)) l.nodes l.literals l.next)

abbrev pub decreases-loop-k : goal.decreases-loop-k
decreases-loop-k l = length l.members - l.k
