-- `pool::cycle::least_back` meets its contract: each need is one lemma of proofs/Reaches.antt. The measure is how many expressions are not followed.
-- Assumes nothing.
use Prim.Native.Nat.{ℕ}
use mathlib.Core.List.{List}
use Rattle.pool.specs.Entries.{entries_in}
use Rattle.pool.specs.Ranking.{count_below, pending, Tabling, Starts}
use Rattle.pool.proofs.Reaches.{Reach}
use Rattle.pool.proofs.cycle.least_back.Given as goal

abbrev pub invariant-loop-e : goal.invariant-loop-e
invariant-loop-e v = (l : List ℕ) (n : ℕ) → Starts (Tabling v.nodes l v.expressions n v.m) (entries_in v.table) → Reach (Tabling v.nodes l v.expressions n v.m) (entries_in v.table) v.target v.least v.marks v.found

abbrev pub decreases-loop-e : goal.decreases-loop-e
decreases-loop-e v = count_below (pending v.marks) v.m
