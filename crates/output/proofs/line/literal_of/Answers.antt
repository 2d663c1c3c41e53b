-- `output::line::literal_of` meets its contract.
-- Assumes nothing.
use Rattle.output.proofs.Lines.{minus-none, literal-brought, literal-not}
use Rattle.output.proofs.line.literal_of.Goals as goal

pub returns-then-n-ge-NODE_LIMIT : goal.returns-then-n-ge-NODE_LIMIT
returns-then-n-ge-NODE_LIMIT c = minus-none _ _ _ c.if-n-ge-NODE_LIMIT.true

pub returns-then-carries_literal : goal.returns-then-carries_literal
returns-then-carries_literal c = literal-brought _ _ _ _ c.if-n-ge-NODE_LIMIT.false c.kind_at.ensures _ c.carries_literal.ensures c.if-carries_literal.true _ c.sign_at.ensures

pub returns : goal.returns
returns c = literal-not _ _ _ _ c.if-n-ge-NODE_LIMIT.false c.kind_at.ensures _ c.carries_literal.ensures c.if-carries_literal.false
