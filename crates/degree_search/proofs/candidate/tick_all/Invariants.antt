-- `degree_search::candidate::tick_all` meets its contract: k of n times are done. Assumes nothing.
use Prim.Native.Nat.{◌-◌, ◌≤◌}
use Rattle.degree_search.proofs.Folds.{Ticking}
use Rattle.degree_search.proofs.candidate.tick_all.Given as goal

abbrev pub invariant-loop-k : goal.invariant-loop-k
invariant-loop-k l = (l.k ≤ l.n) × Ticking l.initial.tally l.n l.tally l.k

abbrev pub decreases-loop-k : goal.decreases-loop-k
decreases-loop-k l = l.n - l.k
