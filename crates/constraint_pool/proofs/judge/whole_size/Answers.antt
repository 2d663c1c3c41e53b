-- `constraint_pool::judge::whole_size` meets its contract.
-- Assumes nothing.
use native.Mathlib.Omega.{arith}
use Rattle.constraint_pool.proofs.Measures.{capped_small, many, whole}
use Rattle.constraint_pool.proofs.Measures.{many, whole}
use Rattle.constraint_pool.proofs.judge.whole_size.Goals as goal

pub returns-then-identities-gt-NODE_LIMIT : goal.returns-then-identities-gt-NODE_LIMIT
returns-then-identities-gt-NODE_LIMIT c = λ l m a. many a c.if-identities-gt-NODE_LIMIT.true

pub overflow_add-n-3 : goal.overflow_add-n-3
overflow_add-n-3 c = let P = c.requires in omega (arith, P.2.some, P.2.members.nodes, c.if-identities-gt-NODE_LIMIT.false, capped_small _ _ (c.members_size.ensures P.0 c.args.n P.1 P.2.members))

pub returns : goal.returns
returns c = λ l m a. whole a (c.members_size.ensures l c.args.n m a.members) c.capped.ensures
