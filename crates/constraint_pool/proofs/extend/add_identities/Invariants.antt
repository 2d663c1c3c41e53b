-- `constraint_pool::extend::add_identities` meets its contract: the first k identities are added.
-- Assumes nothing.
use Prim.Native.Nat.{◌-◌, ◌≤◌}
use lib.ListN.{length, take}
use Rattle.constraint_pool.specs.Nodes.{identities_nodes}
use Rattle.constraint_pool.specs.Asked.{Appends}
use Rattle.constraint_pool.proofs.extend.add_identities.Given as goal

abbrev pub invariant-loop-e : goal.invariant-loop-e
invariant-loop-e l = (l.e-index ≤ length l.others) × Appends l.initial.nodes l.initial.literals l.at (identities_nodes l.vc l.at (take l.e-index l.others)) l.nodes l.literals l.next

abbrev pub decreases-loop-e : goal.decreases-loop-e
decreases-loop-e l = length l.others - l.e-index
