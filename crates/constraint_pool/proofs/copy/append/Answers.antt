-- `constraint_pool::copy::append` meets its contract.
-- Assumes nothing.
use Rattle.constraint_pool.specs.Copies.{appends_one}
use Rattle.constraint_pool.proofs.copy.append.Goals as goal

pub returns : goal.returns
returns c = appends_one _ _ _ _ c.put_node.ensures.0 c.put_node.ensures.1
