-- `sets::has` meets its contract. Assumes nothing.
use Rattle.sets.proofs.Bits.{has-is}
use Rattle.sets.proofs.has.Goals as goal

pub returns : goal.returns
returns c = has-is c.args.set.now c.args.e c.requires
