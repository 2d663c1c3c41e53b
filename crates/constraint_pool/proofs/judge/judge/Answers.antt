-- `constraint_pool::judge::judge` meets its contract: each need is one lemma of proofs/Verdicts.antt.
-- Assumes nothing.
use Rattle.constraint_pool.proofs.Verdicts.{nodes-full, expressions-full, columns-full, all_fit, counts_differ}
use Rattle.constraint_pool.proofs.judge.judge.Goals.{then-m-ge-EXPRESSION_LIMIT-via-then-m-ge-EXPRESSION_LIMIT, then-m-ge-EXPRESSION_LIMIT-via-else-m-ge-EXPRESSION_LIMIT+then-not-columns_fit}
use Rattle.constraint_pool.proofs.judge.judge.Goals as goal

pub whole_size-requires : goal.whole_size-requires
whole_size-requires c = let P = c.requires in (P.0, c.args.m, P.1)

pub returns-then-whole_size-gt-NODE_LIMIT : goal.returns-then-whole_size-gt-NODE_LIMIT
returns-then-whole_size-gt-NODE_LIMIT c = λ l vc a. nodes-full a c.args.c vc (c.whole_size.ensures l c.args.m a) c.if-whole_size-gt-NODE_LIMIT.true

pub returns-then-m-ge-EXPRESSION_LIMIT : goal.returns-then-m-ge-EXPRESSION_LIMIT
returns-then-m-ge-EXPRESSION_LIMIT c =
    elim c.then-m-ge-EXPRESSION_LIMIT.branch [
      | then-m-ge-EXPRESSION_LIMIT-via-then-m-ge-EXPRESSION_LIMIT w ↦ λ l vc a. expressions-full a c.args.c vc (c.whole_size.ensures l c.args.m a) c.if-whole_size-gt-NODE_LIMIT.false w.if-m-ge-EXPRESSION_LIMIT.true
      | then-m-ge-EXPRESSION_LIMIT-via-else-m-ge-EXPRESSION_LIMIT+then-not-columns_fit w ↦
          λ l vc a. columns-full a c.args.c vc (c.whole_size.ensures l c.args.m a) c.if-whole_size-gt-NODE_LIMIT.false w.if-m-ge-EXPRESSION_LIMIT.false w.columns_fit.ensures w.if-not-columns_fit.true
    ]

pub returns-then-not-counts_fit : goal.returns-then-not-counts_fit
returns-then-not-counts_fit c = λ l vc a. counts_differ a c.args.c vc (c.whole_size.ensures l c.args.m a) c.if-whole_size-gt-NODE_LIMIT.false c.if-m-ge-EXPRESSION_LIMIT.false c.columns_fit.ensures c.if-not-columns_fit.false c.counts_fit.ensures c.if-not-counts_fit.true

pub returns : goal.returns
returns c = λ l vc a. all_fit a c.args.c vc (c.whole_size.ensures l c.args.m a) c.if-whole_size-gt-NODE_LIMIT.false c.if-m-ge-EXPRESSION_LIMIT.false c.columns_fit.ensures c.if-not-columns_fit.false c.counts_fit.ensures c.if-not-counts_fit.false
