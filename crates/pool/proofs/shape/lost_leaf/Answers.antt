-- `pool::shape::lost_leaf` meets its contract. Assumes nothing.
use mathlib.Core.Path.{◌∙◌}
use borrow.Author.Tests.{lt-leb}
use Rattle.pool.proofs.Late.{lost-is, found-is}
use Rattle.pool.proofs.shape.lost_leaf.Goals as goal

pub returns-then-expressions-id : goal.returns-then-expressions-id
returns-then-expressions-id c = lost-is _ _ _ c.id.ensures c.if-expressions-id.true c.kind_at.ensures

pub returns-else-expressions-id : goal.returns-else-expressions-id
returns-else-expressions-id c = lt-leb _ _ c.if-expressions-id.false ∙ found-is _ _ _ c.id.ensures c.if-expressions-id.false
