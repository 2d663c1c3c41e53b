-- `pool::words::root` meets its contract. Assumes nothing.
use mathlib.Core.Path.{ap}
use Rattle.frames.specs.declared.rest.Expression.{Expression}
use Rattle.pool.proofs.words.root.Goals as goal

pub returns : goal.returns
returns c = ap (λ (x : Expression). x.root) c.expression_at.ensures
