-- `pool::admit::ranked` meets its contract. Assumes nothing.
use Rattle.pool.proofs.Admits.{cyclic_is, ranked-is}
use Rattle.pool.proofs.admit.ranked.Goals as goal

pub returns-in-Some : goal.returns-in-Some
returns-in-Some c = λ l n a. ranked-is _ _ a (rw c.in-Some.is at c.rank_all.ensures l n a)

pub returns-in-None : goal.returns-in-None
returns-in-None c = λ l n a. rw c.at.ensures (cyclic_is _ _ a (rw c.in-None.is at c.rank_all.ensures l n a) (c.first_on_cycle.ensures l n a))
