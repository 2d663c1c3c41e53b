-- The numbers of the records in some sections, one record after the other. Assumes nothing.
use Rattle.std.specs.Prelude.{ℕ, suc, ◌+◌, ◌<◌, ◌≤◌, ◌≡◌, refl, Bool, true, false, cond, List, [], ◌∷◌, ◌++◌, length, get_or, set, take}
use Rattle.std.proofs.Common.{sym, ap, subst, arith, add-one, take-suc, length-take-le}
use Rattle.kinds.specs.Range.{within, within_in, within-below, within-above}
use Rattle.plan_tables.specs.Tables.{numbers_in}
use Rattle.plan_tables.specs.Listed.{Listed, Put, listed-put}

-- ---- one record

put-by : (c d : Bool) {l l' : List ℕ} {n a r : ℕ} → c ≡ d → Put d l l' n a r → Put c l l' n a r
put-by c d {l} {l'} {n} {a} {r} e q = subst (λ z. Put z l l' n a r) (sym e) q

module _ (a b s : ℕ) (l : List ℕ) (n k : ℕ) where
  pub put-below : s < a → Put (within a b s) l l n k n
  put-below h = put-by (within a b s) false (within-below a b s h) (record { count = refl; held = refl })

  pub put-above : b < s → Put (within a b s) l l n k n
  put-above h = put-by (within a b s) false (within-above a b s h) (record { count = refl; held = refl })

  pub put_in : a ≤ s → s ≤ b → Put (within a b s) l (set l n k) n k (n + 1)
  put_in g h = put-by (within a b s) true (within_in a b s (g, h)) (record { count = refl; held = refl })

-- ---- one record after the other

module _ (a b : ℕ) where
  pub numbers-few : (k : ℕ) (ss : List ℕ) → length (numbers_in a b k ss) ≤ length ss
  numbers-few k [] = omega arith
  numbers-few k (s ∷ ss) = by (within a b s) (numbers-few (suc k) ss)
    where
      by : (c : Bool) → length (numbers_in a b (suc k) ss) ≤ length ss → length (cond c (k ∷ numbers_in a b (suc k) ss) (numbers_in a b (suc k) ss)) ≤ suc (length ss)
      by true h = omega arith
      by false h = omega arith

  pub numbers-snoc : (k : ℕ) (ss : List ℕ) (s j : ℕ) → k + length ss ≡ j → numbers_in a b k (ss ++ (s ∷ [])) ≡ numbers_in a b k ss ++ cond (within a b s) (j ∷ []) []
  numbers-snoc k [] s j e = let q : k ≡ j = omega arith in rw q
  numbers-snoc k (x ∷ ss) s j e = by (within a b x) (numbers-snoc (suc k) ss s j (omega arith))
    where
      by :
          (c : Bool) → numbers_in a b (suc k) (ss ++ (s ∷ [])) ≡ numbers_in a b (suc k) ss ++ cond (within a b s) (j ∷ []) [] →
          cond c (k ∷ numbers_in a b (suc k) (ss ++ (s ∷ []))) (numbers_in a b (suc k) (ss ++ (s ∷ []))) ≡ cond c (k ∷ numbers_in a b (suc k) ss) (numbers_in a b (suc k) ss) ++ cond (within a b s) (j ∷ []) []
      by true h = ap (λ (z : List ℕ). k ∷ z) h
      by false h = h

  module _ (ss : List ℕ) (k : ℕ) where
    -- there are no more numbers than records
    pub numbers-most : k ≤ length ss → length (numbers_in a b 0 (take k ss)) ≤ k
    numbers-most inside = omega (arith, numbers-few 0 (take k ss), length-take-le k ss inside)

    pub numbers_more : k < length ss → numbers_in a b 0 (take (k + 1) ss) ≡ numbers_in a b 0 (take k ss) ++ cond (within a b (get_or ss k 0)) (k ∷ []) []
    numbers_more inside =
        let size : length (take k ss) ≡ k = length-take-le k ss (omega arith) in
        rw (add-one k, take-suc ss k 0 inside) (numbers-snoc 0 (take k ss) (get_or ss k 0) k (omega arith))

  module _ (ss : List ℕ) {l t : List ℕ} {n k : ℕ} (h : Listed l t n (numbers_in a b 0 (take k ss))) where
    pub numbers-room : k ≤ length ss → n ≤ k
    numbers-room inside = omega (arith, h.count, numbers-most ss k inside)

    pub numbers-next : {t' : List ℕ} {r : ℕ} → k < length ss → Put (within a b (get_or ss k 0)) t t' n k r → Listed l t' r (numbers_in a b 0 (take (k + 1) ss))
    numbers-next {t'} {r} inside q = subst (λ z. Listed l t' r z) (sym (numbers_more ss k inside)) (listed-put h (within a b (get_or ss k 0)) k q)

  pub numbers-end : (ss : List ℕ) (count : ℕ) {l t : List ℕ} {n : ℕ} (k : ℕ) → Listed l t n (numbers_in a b 0 (take k ss)) → k ≡ count → Listed l t n (numbers_in a b 0 (take count ss))
  numbers-end ss count {l} {t} {n} k h e = subst (λ z. Listed l t n (numbers_in a b 0 (take z ss))) e h
