-- `context::store::fresh` meets its contract.
-- Assumes nothing.
use Rattle.context.proofs.Copies.{not-fresh, made-fresh}
use Rattle.context.proofs.store.fresh.Goals as goal

pub returns-then-context-ne-CONTEXT_SIZE : goal.returns-then-context-ne-CONTEXT_SIZE
returns-then-context-ne-CONTEXT_SIZE c = not-fresh _ c.if-context-ne-CONTEXT_SIZE.true

pub returns : goal.returns
returns c = made-fresh _ _ c.if-context-ne-CONTEXT_SIZE.false (c.fill.ensures.after (λ y e. e))
