-- EVERY CM OF A PLAN HAS A TREE: the number of its tree names one of tree1 to tree4, with nothing carried over from its position and dimension.
-- Assumes nothing.
use Rattle.std.specs.Prelude.{ℕ, zero, suc, ◌+◌, ◌-◌, ◌*◌, ◌/◌, ◌≤◌, ◌<◌, ◌≡◌, refl, Bool, List, [], ◌∷◌, get_or, replicate, ltb}
use Rattle.std.proofs.Common.{sym, ◌∙◌, ap, subst, not-suc-le-zero, le_of_suc-le-suc, ltb-true, ltb-false}
use Rattle.std.proofs.Math.Bool.{true, false, cond}
use native.Mathlib.Omega.{arith}
use Rattle.std.proofs.Math.ListN.{length, get_or-eq_default}
use Rattle.kinds.specs.KindBytes as kind
use Rattle.kinds.specs.Range.{within, within-true}
use Rattle.sections.specs.Sums.{sum-small, each-length, each_at}
use Rattle.sections.specs.Sections.{placed, dim_at, sum_over, comes_before, position_of, positions_from}
use Rattle.query_fixing.specs.QueryCode.{tree_kind}
use Rattle.map_records.specs.Mapping.{Mapping, cm1_n, cm4_n, twin}
use Rattle.plan_tables.specs.Tables.{numbers_in, tree_word, trees_of, positions, trees}
use Rattle.plan_tables.specs.Sizes.{trees-of-size}
use Rattle.plan_exactly.specs.Small.{Small, small-zeros}

-- ---- the records of some sections

-- a number among them is that of a record in these sections
pub record Within (a b k : ℕ) (ss : List ℕ) (n : ℕ) : Type 0 where
  pub place : ℕ
  pub is : n ≡ k + place
  pub inside : within a b (get_or ss place 0) ≡ true

numbers-within : (a b k : ℕ) (ss : List ℕ) (j : ℕ) → j < length (numbers_in a b k ss) → Within a b k ss (get_or (numbers_in a b k ss) j 0)
numbers-within a b k [] j h = absurd (not-suc-le-zero h)
numbers-within a b k (s ∷ ss) j h = by (numbers-within a b (suc k) ss) (within a b s) refl j h
  where
    later : (n : ℕ) → Within a b (suc k) ss n → Within a b k (s ∷ ss) n
    later n r = record { place = suc r.place; is = r.is ∙ omega arith; inside = r.inside }

    by :
        ((j : ℕ) → j < length (numbers_in a b (suc k) ss) → Within a b (suc k) ss (get_or (numbers_in a b (suc k) ss) j 0)) →
        (t : Bool) → within a b s ≡ t → (j : ℕ) → j < length (cond t (k ∷ numbers_in a b (suc k) ss) (numbers_in a b (suc k) ss)) →
        Within a b k (s ∷ ss) (get_or (cond t (k ∷ numbers_in a b (suc k) ss) (numbers_in a b (suc k) ss)) j 0)
    by ih true e zero q = record { place = 0; is = omega arith; inside = e }
    by ih true e (suc j) q = later (get_or (numbers_in a b (suc k) ss) j 0) (ih j (le_of_suc-le-suc q))
    by ih false e j q = later (get_or (numbers_in a b (suc k) ss) j 0) (ih j q)

trees-at :
    (ss ds ps rs : List ℕ) (j : ℕ) → j < length rs →
    get_or (trees_of ss ds ps rs) j 0 ≡ tree_word (get_or ss (get_or rs j 0) 0) (get_or ps (get_or rs j 0) 0) (get_or ds (get_or rs j 0) 0)
trees-at ss ds ps [] j h = absurd (not-suc-le-zero h)
trees-at ss ds ps (r ∷ rs) zero h = refl
trees-at ss ds ps (r ∷ rs) (suc j) h = trees-at ss ds ps rs j (le_of_suc-le-suc h)

-- ---- positions

module _ (ss ds : List ℕ) (small : Small ds) where
  sum-of-small : (meant : ℕ → Bool) → sum_over ss ds meant ≤ 3 * length ds
  sum-of-small meant = sum-small (λ j. cond (meant j) (dim_at ss ds j) 0) 3 (length ds) (λ j. by (meant j) j)
    where
      by : (t : Bool) (j : ℕ) → cond t (dim_at ss ds j) 0 ≤ 3
      by true j = small j
      by false j = omega arith

  position_small : (old k : ℕ) → position_of ss ds old k ≤ 3 * length ds + old
  unfolding position_of
  position_small old k = by (placed (dim_at ss ds k))
    where
      by : (t : Bool) → cond t (sum_over ss ds (λ j. comes_before ss ds j k)) old ≤ 3 * length ds + old
      by true = omega (arith, sum-of-small (λ j. comes_before ss ds j k))
      by false = omega arith

  positions-small : (ps : List ℕ) → Small ps → (k : ℕ) → get_or (positions_from ss ds ps) k 0 ≤ 3 * length ds + 3
  positions-small ps h k = by (ltb k (length ps)) refl
    where
      by : (t : Bool) → ltb k (length ps) ≡ t → get_or (positions_from ss ds ps) k 0 ≤ 3 * length ds + 3
      by true e = rw (each_at (λ j. position_of ss ds (get_or ps j 0) j) k (length ps) (ltb-true k (length ps) e)) (omega (arith, position_small (get_or ps k 0) k, h k))
      by false e = rw (get_or-eq_default (positions_from ss ds ps) 0 {n = k} (omega (arith, each-length (λ j. position_of ss ds (get_or ps j 0) j) (length ps), ltb-false k (length ps) e))) (omega arith)

-- ---- trees

-- tree1 to tree4
pub record IsTree (tree : ℕ) : Type 0 where
  pub from : kind.tree1 ≤ tree_kind tree
  pub to : tree_kind tree ≤ kind.tree4

word-is-tree : (s p d : ℕ) → (twin cm1_n ≤ s) × (s ≤ twin cm4_n) → p < 0x10000 → d < 0x10000 → IsTree (tree_word s p d)
unfolding tree_kind
word-is-tree s p d h hp hd =
    let k : ((kind.tree1 + (s - twin cm1_n)) * 0x100000000 + p * 0x10000 + d) / 0x100000000 ≡ kind.tree1 + (s - twin cm1_n) = omega (arith, hp, hd) in
    record { from = omega (arith, k); to = omega (arith, k, h.0, h.1) }

-- OF RECORDS OF SMALL DIMENSIONS, and not too many
pub all-trees : (m : Mapping) → Small m.dims → length m.dims ≤ 0x1000 → (j : ℕ) → j < length (trees m) → IsTree (get_or (trees m) j 0)
all-trees m small few j h =
    let rs : List ℕ = numbers_in (twin cm1_n) (twin cm4_n) 0 m.sections in
    let inside : j < length rs = omega (arith, h, trees-of-size m.sections m.dims (positions m) rs) in
    let w = numbers-within (twin cm1_n) (twin cm4_n) 0 m.sections j inside in
    let n : ℕ = get_or rs j 0 in
    let at : get_or m.sections n 0 ≡ get_or m.sections w.place 0 = ap (λ k. get_or m.sections k 0) (w.is ∙ omega arith) in
    subst IsTree (sym (trees-at m.sections m.dims (positions m) rs j inside))
    (word-is-tree (get_or m.sections n 0) (get_or (positions m) n 0) (get_or m.dims n 0)
    (within-true (twin cm1_n) (twin cm4_n) (get_or m.sections n 0) (ap (within (twin cm1_n) (twin cm4_n)) at ∙ w.inside))
    (omega (arith, positions-small m.sections m.dims small (replicate (length m.sections) 0) (small-zeros (length m.sections)) n, few))
    (omega (arith, small n)))
