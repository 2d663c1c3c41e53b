-- The five functions of the degree rule meet their contracts: each need is one lemma of proofs/Visits.antt or proofs/Splits.antt. The measure is the levels that are
-- left, then the node, then which function it is. Assumes nothing.
use Prim.Native.Nat.{ℕ, ◌+◌, ◌*◌, ◌-◌}
use mathlib.Core.Path.{◌≡◌}
use mathlib.Core.List.{List}
use Rattle.pool.specs.Ranking.{Tabling}
use Rattle.degree_rule.specs.Visiting.{AsksProduct}
use Rattle.degree_rule.proofs.Splits.{Going}
use Rattle.degree_rule.proofs.rule.+pair_product_reference_splits_visit.Given as goal

abbrev pub decreases-pair : goal.decreases-pair
decreases-pair l = l.levels * 16400 + (4 * l.i + 4)

abbrev pub decreases-product : goal.decreases-product
decreases-product l = l.levels * 16400 + (4 * l.i + 6)

abbrev pub decreases-reference : goal.decreases-reference
decreases-reference l = l.levels * 16400

abbrev pub decreases-splits : goal.decreases-splits
decreases-splits l = l.levels * 16400 + (4 * l.i + 5)

abbrev pub decreases-visit : goal.decreases-visit
decreases-visit l = l.levels * 16400 + (4 * l.i + 7)

abbrev pub invariant-splits-loop-l : goal.invariant-splits-loop-l
invariant-splits-loop-l l =
    (l.before ≡ l.fn.set) × ((z : List ℕ) (n c : ℕ) (rank : ℕ → ℕ) (a : AsksProduct (Tabling l.nodes z l.expressions n c) rank l.full l.fn.set l.fn.tally l.levels l.m l.i) → Going a l.best l.kept l.tally l.l)

abbrev pub decreases-splits-loop-l : goal.decreases-splits-loop-l
decreases-splits-loop-l l = l.m + 1 - l.l
