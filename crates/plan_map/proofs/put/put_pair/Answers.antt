-- `plan_map::put::put_pair` meets its contract (proofs/Putting.antt). Assumes nothing.
use Rattle.plan_map.proofs.Putting.{pair_put}
use Rattle.plan_map.proofs.put.put_pair.Goals as goal

pub returns : goal.returns
returns c = pair_put c.args.at c.args.a c.put_u16.ensures c.args.b c.put_u16-2.ensures
