-- Laws of a test of every number below one. Assumes nothing.
use Rattle.std.specs.Prelude.{ℕ, zero, suc, ◌+◌, ◌<◌, ◌≤◌, ◌≡◌, refl, Bool, true, false, ◌&&◌, ◌⊎◌, ltb}
use Rattle.std.proofs.Common.{sym, ap, subst, inl, inr, arith, eq-or-lt_of_le, le_of_suc-le-suc, not-suc-le-zero, add-one, lt-ltb, le-ltb}
use Rattle.plans.specs.Plan.{every}

pub and-false : (a : Bool) → (a && false) ≡ false
and-false true = refl
and-false false = refl

module _ (f : ℕ → Bool) where
  pub every-next : (k : ℕ) → every f k ≡ true → f k ≡ true → every f (k + 1) ≡ true
  every-next k a b = subst (λ n. every f n ≡ true) (sym (add-one k)) (rw (a, b))

  -- one that fails
  pub every-fails : (n k : ℕ) → k < n → f k ≡ false → false ≡ every f n
  every-fails zero k h q = absurd (not-suc-le-zero h)
  every-fails (suc n) k h q = go (every-fails n) (eq-or-lt_of_le (le_of_suc-le-suc h))
    where
      go : ((j : ℕ) → j < n → f j ≡ false → false ≡ every f n) → (k ≡ n) ⊎ (k < n) → false ≡ (every f n && f n)
      go ih (inl e) = rw (subst (λ j. f j ≡ false) e q) (sym (and-false (every f n)))
      go ih (inr l) = ap (λ b. b && f n) (ih k l q)

  -- all are passed
  pub every-ends : {n k : ℕ} → k ≤ n → n ≤ k → every f k ≡ true → true ≡ every f n
  every-ends {n} {k} a b q = let e : k ≡ n = omega arith in sym (subst (λ j. every f j ≡ true) e q)

-- ---- tests of two numbers

module _ {m : ℕ} where
  pub below-not : {a r : ℕ} → r ≡ a → m ≤ r → ltb a m ≡ false
  below-not {a} {r} e h = le-ltb a m (omega arith)

  pub below-is : {a r : ℕ} → r ≡ a → r < m → ltb a m ≡ true
  below-is {a} {r} e h = lt-ltb a m (omega arith)

  pub both_first : {a r : ℕ} (b : ℕ) → r ≡ a → m ≤ r → (ltb a m && ltb b m) ≡ false
  both_first b e h = rw (below-not e h)

  pub both-second : {b r : ℕ} (a : ℕ) → r ≡ b → m ≤ r → (ltb a m && ltb b m) ≡ false
  both-second a e h = rw (below-not e h) (and-false (ltb a m))

  pub both_are : {a b r s : ℕ} → r ≡ a → r < m → s ≡ b → s < m → (ltb a m && ltb b m) ≡ true
  both_are e h g k = rw (below-is e h, below-is g k)
