-- Laws of counting what is pending and what is not reached in a table of ranks, over plain variables.
-- Assumes nothing.
use Prim.Native.Nat.{ℕ, zero, suc, ◌+◌, ◌<◌, ◌≤◌}
use mathlib.Core.Path.{◌≡◌, refl, sym, ◌∙◌, ap}
use mathlib.Core.Bool.{Bool, true, false, cond}
use mathlib.Core.List.{List, [], ◌∷◌}
use mathlib.Core.Logic.{◌⊎◌, inl, inr, ⊎_elim}
use native.Mathlib.Omega.{arith}
use native.Mathlib.Nat.{eq-or-lt_of_le, not-suc-le-zero, le_of_suc-le-suc}
use lib.ListN.{length, get_or, set}
use Rattle.meaning.proofs.Laws.Tests.{true-false}
use Rattle.pool.specs.Ranking.{count_below, zeros, Later}

-- one fewer is not reached
pub zeros-set : (l : List ℕ) (e : ℕ) → e < length l → get_or l e 0 ≡ 0 → zeros (set l e 1) + 1 ≡ zeros l
unfolding zeros
zeros-set [] e h z = absurd (not-suc-le-zero h)
zeros-set (zero ∷ l) zero h z = omega arith
zeros-set (suc x ∷ l) zero h z = absurd (omega (arith, z))
zeros-set (zero ∷ l) (suc e) h z = omega (arith, zeros-set l e (le_of_suc-le-suc h) z)
zeros-set (suc x ∷ l) (suc e) h z = zeros-set l e (le_of_suc-le-suc h) z

-- what is reached stays so
pub zeros-later : (l k : List ℕ) → length k ≡ length l → Later l k → zeros k ≤ zeros l
unfolding zeros
zeros-later [] [] q h = omega arith
zeros-later [] (y ∷ k) q h = absurd (omega (arith, q))
zeros-later (x ∷ l) [] q h = absurd (omega (arith, q))
zeros-later (zero ∷ l) (zero ∷ k) q h = let r = zeros-later l k (omega (arith, q)) (λ e. h (suc e)) in omega arith
zeros-later (zero ∷ l) (suc y ∷ k) q h = let r = zeros-later l k (omega (arith, q)) (λ e. h (suc e)) in omega arith
zeros-later (suc x ∷ l) (zero ∷ k) q h = absurd (⊎_elim (λ e. omega (arith, e)) (λ e. omega (arith, e.0)) (h 0))
zeros-later (suc x ∷ l) (suc y ∷ k) q h = zeros-later l k (omega (arith, q)) (λ e. h (suc e))

-- tests that agree count the same
pub count_same : (f g : ℕ → Bool) (m : ℕ) → ((e : ℕ) → e < m → f e ≡ g e) → count_below f m ≡ count_below g m
unfolding count_below
count_same f g zero h = refl
count_same f g (suc m) h = rw (h m (omega arith), count_same f g m (λ e l. h e (omega arith)))

-- one that passed and passes no more
pub count_less :
    (f g : ℕ → Bool) (m e : ℕ) → e < m → f e ≡ true → g e ≡ false → ((j : ℕ) → (j ≡ e → ⊥) → f j ≡ g j) → count_below f m ≡ suc (count_below g m)
unfolding count_below
count_less f g zero e l p q h = absurd (not-suc-le-zero l)
count_less f g (suc m) e l p q h = go (count_less f g m e) (eq-or-lt_of_le (le_of_suc-le-suc l))
  where
    go :
        (e < m → f e ≡ true → g e ≡ false → ((j : ℕ) → (j ≡ e → ⊥) → f j ≡ g j) → count_below f m ≡ suc (count_below g m)) → (e ≡ m) ⊎ (e < m) →
        cond (f m) (suc (count_below f m)) (count_below f m) ≡ suc (cond (g m) (suc (count_below g m)) (count_below g m))
    go ih (inl k) =
        let a : f m ≡ true = ap f (sym k) ∙ p in
        let b : g m ≡ false = ap g (sym k) ∙ q in
        rw (a, b) (ap suc (count_same f g m (λ j i. h j (λ z. omega arith))))
    go ih (inr i) = rw (h m (λ z. omega arith), ih i p q h) (at (g m))
      where
        at : (b : Bool) → cond b (suc (suc (count_below g m))) (suc (count_below g m)) ≡ suc (cond b (suc (count_below g m)) (count_below g m))
        at true = refl
        at false = refl

-- a count is no more than all
pub count-some : (f : ℕ → Bool) (m e : ℕ) → e < m → f e ≡ true → 1 ≤ count_below f m
unfolding count_below
count-some f zero e l p = absurd (not-suc-le-zero l)
count-some f (suc m) e l p = go (count-some f m e) (f m) refl (eq-or-lt_of_le (le_of_suc-le-suc l))
  where
    go :
        (e < m → f e ≡ true → 1 ≤ count_below f m) → (b : Bool) → f m ≡ b → (e ≡ m) ⊎ (e < m) → 1 ≤ cond b (suc (count_below f m)) (count_below f m)
    go ih true q w = omega arith
    go ih false q (inl k) = absurd (true-false (ap f (sym k) ∙ p) q)
    go ih false q (inr i) = ih i p
