-- `constraint_pieces::close::close` meets its contract: each answer is one lemma of proofs/Closes.antt.
-- Assumes nothing.
use Rattle.constraint_pieces.proofs.Closes.{past-limit, bad-context, good-told}
use Rattle.constraint_pieces.proofs.close.close.Goals as goal

pub returns-then-m-gt-EXPRESSION_LIMIT : goal.returns-then-m-gt-EXPRESSION_LIMIT
returns-then-m-gt-EXPRESSION_LIMIT c = rw c.into.ensures (past-limit _ _ _ c.if-m-gt-EXPRESSION_LIMIT.true)

pub is_good-requires : goal.is_good-requires
is_good-requires c = c.if-m-gt-EXPRESSION_LIMIT.false

pub returns-then-not-is_good : goal.returns-then-not-is_good
returns-then-not-is_good c = rw c.into-then-not-is_good.ensures (bad-context _ _ _ c.if-m-gt-EXPRESSION_LIMIT.false c.is_good.ensures c.if-not-is_good.true)

pub close_good-requires : goal.close_good-requires
close_good-requires c = (_, record { few = c.if-m-gt-EXPRESSION_LIMIT.false; good = c.is_good.ensures.0 c.if-not-is_good.false })

pub returns : goal.returns
returns c = good-told _ _ _ c.if-m-gt-EXPRESSION_LIMIT.false c.is_good.ensures c.if-not-is_good.false c.close_good.ensures
