-- `constraint_pool::join::scale` meets its contract.
-- Assumes nothing.
use mathlib.Core.Path.{refl}
use Rattle.constraint_pool.proofs.Joins.{scaled-given}
use Rattle.constraint_pool.proofs.join.scale.Goals as goal

pub returns : goal.returns
returns c = scaled-given refl c.preceding.ensures c.leaf.ensures c.pair.ensures c.append-product.ensures c.append.ensures
