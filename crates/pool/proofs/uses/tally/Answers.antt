-- `pool::uses::tally` meets its contract. Assumes nothing.
use Rattle.pool.proofs.Tally.{tally-past, tally-full, tally-more}
use Rattle.pool.proofs.uses.tally.Goals.{else-k-lt-NODE_LIMIT-via-then-k-lt-NODE_LIMIT+else-uses-k-lt2, else-k-lt-NODE_LIMIT-via-else-k-lt-NODE_LIMIT}
use Rattle.pool.proofs.uses.tally.Goals as goal

pub returns-then-uses-k-lt2 : goal.returns-then-uses-k-lt2
returns-then-uses-k-lt2 c = tally-more _ _ c.if-k-lt-NODE_LIMIT.true c.if-uses-k-lt2.true

pub returns-else-k-lt-NODE_LIMIT : goal.returns-else-k-lt-NODE_LIMIT
returns-else-k-lt-NODE_LIMIT c =
    elim c.else-k-lt-NODE_LIMIT.branch [
      | else-k-lt-NODE_LIMIT-via-then-k-lt-NODE_LIMIT+else-uses-k-lt2 w ↦ tally-full _ _ w.if-k-lt-NODE_LIMIT.true w.if-uses-k-lt2.false
      | else-k-lt-NODE_LIMIT-via-else-k-lt-NODE_LIMIT w ↦ tally-past _ _ w.if-k-lt-NODE_LIMIT.false
    ]
