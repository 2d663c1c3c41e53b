-- `pool::rank::visit` and `pool::rank::walk` meet their contracts: each need is one lemma of proofs/Ranks.antt or proofs/Children.antt.
-- The measure is what is not reached, then the node. Assumes nothing.
use Prim.Native.Nat.{◌+◌, ◌*◌}
use Rattle.pool.specs.Ranking.{zeros}
use Rattle.pool.proofs.rank.+visit_walk.Given as goal

abbrev pub decreases-visit : goal.decreases-visit
decreases-visit l = zeros l.ranks.now * 4097

abbrev pub decreases-walk : goal.decreases-walk
decreases-walk l = zeros l.ranks.now * 4097 + (l.i + 1)
