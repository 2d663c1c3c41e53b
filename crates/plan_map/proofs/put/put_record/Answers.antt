-- `plan_map::put::put_record` meets its contract (proofs/Putting.antt). Assumes nothing.
use Rattle.plan_map.proofs.Putting.{record-put}
use Rattle.plan_map.proofs.put.put_record.Goals as goal

pub returns : goal.returns
returns c = record-put c.args.at c.args.section c.put_u16.ensures c.put_pair.ensures
