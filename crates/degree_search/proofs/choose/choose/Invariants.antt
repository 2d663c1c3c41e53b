-- `degree_search::choose::choose` meets its contract: each need is one lemma of proofs/Choices.antt. Assumes nothing.
use Prim.Native.Nat.{ℕ, ◌+◌, ◌-◌}
use mathlib.Core.List.{List}
use Rattle.pool.specs.Ranking.{Tabling}
use Rattle.degree_search.specs.Choosing.{Asks}
use Rattle.degree_search.proofs.Choices.{Trying}
use Rattle.degree_search.proofs.choose.choose.Given as goal

abbrev pub invariant-loop-d : goal.invariant-loop-d
invariant-loop-d v = (l : List ℕ) (n : ℕ) (rank : ℕ → ℕ) (a : Asks (Tabling v.nodes l v.expressions n v.m) rank v.full v.identities v.last) → Trying a v.limit v.best v.kept v.tally v.d

abbrev pub decreases-loop-d : goal.decreases-loop-d
decreases-loop-d v = v.last + 1 - v.d
