-- `plan_tables::trees::fill_trees` meets its contract: the trees of the records before k are listed. Assumes nothing.
use Prim.Native.Nat.{◌≤◌, ◌-◌}
use lib.ListN.{take}
use Rattle.plan_tables.specs.Tables.{numbers_in, trees_of}
use Rattle.plan_tables.specs.Listed.{Listed}
use Rattle.plan_tables.proofs.trees.fill_trees.Given as goal

abbrev pub invariant-loop-k : goal.invariant-loop-k
invariant-loop-k l = (l.k ≤ l.count) × Listed l.initial.trees l.trees l.n (trees_of (take l.count l.sections) (take l.count l.dims) (take l.count l.positions) (numbers_in 5 8 0 (take l.k l.sections)))

abbrev pub decreases-loop-k : goal.decreases-loop-k
decreases-loop-k l = l.count - l.k
