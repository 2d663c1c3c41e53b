-- `constraint_frames::members::list_members` meets its contract: the members below e are listed. Assumes nothing.
use Rattle.constraint_frames.proofs.Listings.{sofar_none, sofar_put, sofar_kept, sofar_all}
use Rattle.constraint_frames.proofs.members.list_members.Goals as goal
use Rattle.constraint_frames.proofs.members.list_members.Goals.{then-has, else-has}

pub loop-e-init : goal.loop-e-init
loop-e-init c = sofar_none c.args.set.now c.args.out.now

pub loop-e-preserved : goal.loop-e-preserved
loop-e-preserved c =
    elim c.if-has.branch [
      | then-has w ↦ sofar_put c.args.set.now c.args.out.now c.loop-e.invariant c.loop-e-test.true c.has.ensures w.if-has.true w.out-is w.count-is
      | else-has w ↦ sofar_kept c.args.set.now c.args.out.now c.loop-e.invariant c.loop-e-test.true c.has.ensures w.if-has.false w.out-is w.count-is
    ]

pub returns : goal.returns
returns c = sofar_all c.args.set.now c.args.out.now c.loop-e.invariant c.loop-e-test.false
