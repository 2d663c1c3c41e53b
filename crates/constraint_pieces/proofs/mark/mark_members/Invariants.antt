-- `constraint_pieces::mark::mark_members` meets its contract: the members from the next on are left to mark.
-- Assumes nothing.
use Prim.Native.Nat.{◌-◌, ◌≤◌}
use mathlib.Core.Path.{◌≡◌}
use lib.ListN.{length, drop}
use Rattle.constraint_pieces.specs.Marks.{mark_all}
use Rattle.constraint_pieces.proofs.mark.mark_members.Given as goal

abbrev pub invariant-loop-e : goal.invariant-loop-e
invariant-loop-e l = (l.e-index ≤ length l.members) × (mark_all (drop l.e-index l.members) l.marks ≡ mark_all l.members l.initial.marks)

abbrev pub decreases-loop-e : goal.decreases-loop-e
decreases-loop-e l = length l.members - l.e-index
