-- `pool::uses::tally_roots` meets its contract: the roots of the expressions below e are tallied. Assumes nothing.
use Prim.Native.Nat.{◌≤◌, ◌-◌}
use Rattle.pool.specs.Shapes.{Tallies, root_uses_in}
use Rattle.pool.proofs.uses.tally_roots.Given as goal

abbrev pub invariant-loop-e : goal.invariant-loop-e
invariant-loop-e l = (l.e ≤ l.m) × Tallies l.initial.uses l.uses (root_uses_in l.expressions l.e)

abbrev pub decreases-loop-e : goal.decreases-loop-e
decreases-loop-e l = l.m - l.e
