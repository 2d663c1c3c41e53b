-- `plan_map::put::put_offset` meets its contract: the quarters of a number are those of its halves (proofs/Putting.antt). Assumes nothing.
use Rattle.plan_map.proofs.Putting.{offset_put}
use Rattle.plan_map.proofs.put.put_offset.Goals as goal

pub returns : goal.returns
returns c = offset_put c.args.x c.put_pair-half.ensures c.put_pair.ensures
