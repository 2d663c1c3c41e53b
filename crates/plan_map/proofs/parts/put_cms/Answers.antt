-- `plan_map::parts::put_cms` meets its contract: its numbers stand one behind the other (proofs/Tabling.antt). Assumes nothing.
use Rattle.plan_map.proofs.Tabling.{cms-put}
use Rattle.plan_map.proofs.parts.put_cms.Goals as goal

pub returns : goal.returns
returns c = cms-put c.args.sections.now c.args.cmdims.now c.args.n c.args.cms c.put_record_numbers-extended.ensures c.put_record_numbers-dims.ensures c.put_numbers.ensures
