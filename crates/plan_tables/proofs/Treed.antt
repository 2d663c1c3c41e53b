-- The trees of the cm numbers, one record after the other. Assumes nothing.
use Prim.Native.Nat.{ℕ, ◌+◌, ◌<◌, ◌≤◌}
use mathlib.Core.Path.{◌≡◌, refl, sym, ◌∙◌, ap, subst}
use mathlib.Core.Bool.{Bool, true, false, cond}
use mathlib.Core.List.{List, [], ◌∷◌, ◌++◌}
use native.Mathlib.Omega.{arith}
use lib.ListN.{length, get_or, take}
use lib.Seq.{get_or-take}
use Rattle.kinds.specs.Range.{within}
use Rattle.plan_tables.specs.Tables.{numbers_in, tree_word, trees_of, trees_in}
use Rattle.plan_tables.specs.Listed.{Listed, Put, listed-put}
use Rattle.plan_tables.specs.Sectioned.{numbers-most, numbers_more}
use Rattle.plan_tables.specs.Sizes.{trees-of-size}

-- a value that is another
pub put_as : {c : Bool} {l l' : List ℕ} {n v a r : ℕ} → v ≡ a → Put c l l' n v r → Put c l l' n a r
put_as {c} {l} {l'} {n} {v} {a} {r} e q = subst (λ z. Put c l l' n z r) e q

module _ (ss ds ps : List ℕ) where
  trees-append : (xs ys : List ℕ) → trees_of ss ds ps (xs ++ ys) ≡ trees_of ss ds ps xs ++ trees_of ss ds ps ys
  trees-append [] ys = refl
  trees-append (x ∷ xs) ys = ap (λ (z : List ℕ). tree_word (get_or ss x 0) (get_or ps x 0) (get_or ds x 0) ∷ z) (trees-append xs ys)

  one : (c : Bool) (k : ℕ) → trees_of ss ds ps (cond c (k ∷ []) []) ≡ cond c (tree_word (get_or ss k 0) (get_or ps k 0) (get_or ds k 0) ∷ []) []
  one true k = refl
  one false k = refl

module _ (ss ds ps : List ℕ) (count : ℕ) (whole : count ≤ length ss) where
  -- those of the first k records
  abbrev pub trees_to : ℕ → List ℕ
  trees_to k = trees_of (take count ss) (take count ds) (take count ps) (numbers_in 5 8 0 (take k ss))

  module _ {l t : List ℕ} {n k : ℕ} (h : Listed l t n (trees_to k)) (less : k < count) where
    pub trees-room : n ≤ k
    trees-room = omega (arith, h.count, trees-of-size (take count ss) (take count ds) (take count ps) (numbers_in 5 8 0 (take k ss)), numbers-most 5 8 ss k (omega arith))

    pub trees-next : {t' : List ℕ} {r : ℕ} → Put (within 5 8 (get_or ss k 0)) t t' n (tree_word (get_or ss k 0) (get_or ps k 0) (get_or ds k 0)) r → Listed l t' r (trees_to (k + 1))
    trees-next {t'} {r} q = subst (λ z. Listed l t' r z) (sym more) (listed-put h (within 5 8 (get_or ss k 0)) (tree_word (get_or ss k 0) (get_or ps k 0) (get_or ds k 0)) q)
      where
        word : tree_word (get_or (take count ss) k 0) (get_or (take count ps) k 0) (get_or (take count ds) k 0) ≡ tree_word (get_or ss k 0) (get_or ps k 0) (get_or ds k 0)
        word = rw (get_or-take count ss k 0 less, get_or-take count ps k 0 less, get_or-take count ds k 0 less)

        more : trees_to (k + 1) ≡ trees_to k ++ cond (within 5 8 (get_or ss k 0)) (tree_word (get_or ss k 0) (get_or ps k 0) (get_or ds k 0) ∷ []) []
        more =
            ap (trees_of (take count ss) (take count ds) (take count ps)) (numbers_more 5 8 ss k (omega arith))
            ∙ trees-append (take count ss) (take count ds) (take count ps) (numbers_in 5 8 0 (take k ss)) (cond (within 5 8 (get_or ss k 0)) (k ∷ []) [])
            ∙ ap (λ (z : List ℕ). trees_to k ++ z) (one (take count ss) (take count ds) (take count ps) (within 5 8 (get_or ss k 0)) k ∙ ap (λ z. cond (within 5 8 (get_or ss k 0)) (z ∷ []) []) word)

  pub trees-all : {l t : List ℕ} {n : ℕ} (k : ℕ) → Listed l t n (trees_to k) → k ≡ count → Listed l t n (trees_in (take count ss) (take count ds) (take count ps))
  trees-all {l} {t} {n} k h e = subst (λ z. Listed l t n (trees_to z)) e h
