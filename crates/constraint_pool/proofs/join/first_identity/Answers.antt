-- `constraint_pool::join::first_identity` meets its contract.
-- Assumes nothing.
use Rattle.constraint_pool.proofs.Joins.{appends_is}
use Rattle.constraint_pool.proofs.join.first_identity.Goals as goal

pub returns : goal.returns
returns c = appends_is c.leaf.ensures c.append.ensures
