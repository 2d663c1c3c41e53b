-- `constraint_pool::join::add_identity` meets its contract.
-- Assumes nothing.
use mathlib.Core.Path.{refl}
use Rattle.constraint_pool.proofs.Joins.{identity-given}
use Rattle.constraint_pool.proofs.join.add_identity.Goals as goal

pub returns : goal.returns
returns c = identity-given c.scale-own.ensures c.preceding.ensures refl c.leaf.ensures c.pair.ensures c.append-sum.ensures c.append.ensures
