-- `pool::uses::tally_nodes` meets its contract: the children of the nodes below i are tallied. Assumes nothing.
use Prim.Native.Nat.{◌≤◌, ◌-◌}
use Rattle.pool.specs.Shapes.{Tallies, child_uses_in}
use Rattle.pool.proofs.uses.tally_nodes.Given as goal

abbrev pub invariant-loop-i : goal.invariant-loop-i
invariant-loop-i l = (l.i ≤ l.n) × Tallies l.initial.uses l.uses (child_uses_in l.nodes l.i)

abbrev pub decreases-loop-i : goal.decreases-loop-i
decreases-loop-i l = l.n - l.i
