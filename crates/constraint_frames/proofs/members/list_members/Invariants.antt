-- `constraint_frames::members::list_members` meets its contract: the members below e are listed. Assumes nothing.
use Prim.Native.Nat.{◌-◌}
use Rattle.constraint_frames.proofs.Listings.{Sofar}
use Rattle.constraint_frames.proofs.members.list_members.Given as goal

abbrev pub invariant-loop-e : goal.invariant-loop-e
invariant-loop-e l = Sofar l.set l.initial.out l.e l.out l.count

abbrev pub decreases-loop-e : goal.decreases-loop-e
decreases-loop-e l = 512 - l.e
