-- `frames::take::take` meets its contract: on a refusal nothing is stored.
-- Assumes nothing.
use Rattle.std.proofs.lemmas.Result.{err_from_is_err_and}
use Rattle.frames.proofs.Takes.{room, refused-takes, read-takes}
use Rattle.frames.proofs.take.take.Goals as goal

pub store-requires : goal.store-requires
store-requires c = room c.frame_of-x.result _ _ c.placed.result c.frame_of-x.ensures c.placed.ensures _ c.in_ok-d.was

pub returns-in_err-d : goal.returns-in_err-d
returns-in_err-d c = let p = err_from_is_err_and c.from_residual.result c.from_residual.ensures.1 in rw (p.1, p.2) (refused-takes c.frame_of-x.result _ _ c.placed.result c.frame_of-x.ensures c.placed.ensures _ _ c.in_err-d.was)

pub returns : goal.returns
returns c = read-takes c.frame_of-x.result _ _ c.placed.result c.frame_of-x.ensures c.placed.ensures _ _ _ c.in_ok-d.was c.store.ensures
