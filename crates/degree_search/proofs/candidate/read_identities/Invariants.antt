-- `degree_search::candidate::read_identities` meets its contract: what is left to read, after the first k, is all that there is. Assumes nothing.
use Prim.Native.Nat.{ℕ, ◌-◌}
use mathlib.Core.List.{List}
use lib.ListN.{length}
use Rattle.pool.specs.Ranking.{Tabling}
use Rattle.degree_search.specs.Candidates.{AsksAll}
use Rattle.degree_search.proofs.Folds.{Reading-on}
use Rattle.degree_search.proofs.candidate.read_identities.Given as goal

abbrev pub invariant-loop-k : goal.invariant-loop-k
invariant-loop-k v = (l : List ℕ) (n : ℕ) (rank : ℕ → ℕ) (a : AsksAll (Tabling v.nodes l v.expressions n v.m) rank v.full v.identities v.initial.set v.initial.tally) → Reading-on a v.largest v.set v.tally v.k

abbrev pub decreases-loop-k : goal.decreases-loop-k
decreases-loop-k v = length v.identities - v.k
