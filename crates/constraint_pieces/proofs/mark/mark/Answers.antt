-- `constraint_pieces::mark::mark` meets its contract: each answer is one lemma of proofs/Turns.antt.
-- Assumes nothing.
use Rattle.constraint_pieces.proofs.Turns.{past-limit, bad-context, not_there, good-asks, all_done}
use Rattle.constraint_pieces.proofs.mark.mark.Goals as goal

pub returns-then-m-gt-EXPRESSION_LIMIT : goal.returns-then-m-gt-EXPRESSION_LIMIT
returns-then-m-gt-EXPRESSION_LIMIT c = rw c.into.ensures (past-limit _ _ _ c.args.list.now c.if-m-gt-EXPRESSION_LIMIT.true)

pub is_good-requires : goal.is_good-requires
is_good-requires c = c.if-m-gt-EXPRESSION_LIMIT.false

pub returns-then-not-is_good : goal.returns-then-not-is_good
returns-then-not-is_good c = rw c.into-then-not-is_good.ensures (bad-context _ _ _ c.args.list.now c.if-m-gt-EXPRESSION_LIMIT.false c.is_good.ensures c.if-not-is_good.true)

pub returns-then-not-all_there : goal.returns-then-not-all_there
returns-then-not-all_there c = rw c.into-then-not-all_there.ensures (not_there _ _ _ c.args.list.now c.if-m-gt-EXPRESSION_LIMIT.false c.is_good.ensures c.if-not-is_good.false c.all_there.ensures c.if-not-all_there.true)

pub mark_good-requires : goal.mark_good-requires
mark_good-requires c = good-asks _ _ _ c.args.list.now c.if-m-gt-EXPRESSION_LIMIT.false c.is_good.ensures c.if-not-is_good.false c.all_there.ensures c.if-not-all_there.false

pub returns : goal.returns
returns c = all_done _ _ _ c.args.list.now c.if-m-gt-EXPRESSION_LIMIT.false c.is_good.ensures c.if-not-is_good.false c.all_there.ensures c.if-not-all_there.false c.mark_good.ensures
