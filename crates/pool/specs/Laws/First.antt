-- Laws of the first number of which a test holds.
-- Assumes nothing.
use Rattle.std.specs.Prelude.{ℕ, zero, suc, ◌+◌, ◌<◌, ◌≤◌, ◌≡◌, refl, Bool, true, false, cond, ◌⊎◌}
use Rattle.std.proofs.Common.{sym, ◌∙◌, ap, inl, inr, ⊎_elim, eq-or-lt_of_le, arith}
use Rattle.std.proofs.Math.Option.{none, some, none-ne-some, some-ne-none, some-injective}
use Rattle.meaning.proofs.Laws.Tests.{true-false}
use Rattle.pool.specs.Admission.{first_from}

-- it is found: it is in range, the test holds of it and of none before
pub record Found (f : ℕ → Bool) (k m n : ℕ) : Type 0 where
  pub low : k ≤ n
  pub high : n < k + m
  pub holds : f n ≡ true
  pub least : (j : ℕ) → k ≤ j → j < n → f j ≡ false

pub found : (f : ℕ → Bool) (k m n : ℕ) → Found f k m n → first_from f k m ≡ some n
found f k zero n h = absurd (omega (arith, h.low, h.high))
found f k (suc m) n h = go (found f (suc k) m n) (f k) refl (eq-or-lt_of_le h.low)
  where
    go :
        (Found f (suc k) m n → first_from f (suc k) m ≡ some n) → (b : Bool) → f k ≡ b → (k ≡ n) ⊎ (k < n) →
        cond b (some k) (first_from f (suc k) m) ≡ some n
    go ih true q (inl e) = ap some e
    go ih true q (inr l) = absurd (true-false q (h.least k (omega arith) l))
    go ih false q (inl e) = absurd (true-false h.holds (ap f (sym e) ∙ q))
    go ih false q (inr l) = ih (record { low = l; high = omega (arith, h.high); holds = h.holds; least = λ j a b. h.least j (omega arith) b })

pub none_found : (f : ℕ → Bool) (k m : ℕ) → ((j : ℕ) → k ≤ j → j < k + m → f j ≡ false) → first_from f k m ≡ none
none_found f k zero h = refl
none_found f k (suc m) h = rw (h k (omega arith) (omega arith)) (none_found f (suc k) m (λ j a b. h j (omega arith) (omega arith)))

-- and back
pub found-is : (f : ℕ → Bool) (k m n : ℕ) → first_from f k m ≡ some n → Found f k m n
found-is f k zero n h = absurd (none-ne-some n h)
found-is f k (suc m) n h = go (found-is f (suc k) m n) (f k) refl h
  where
    go :
        (first_from f (suc k) m ≡ some n → Found f (suc k) m n) → (b : Bool) → f k ≡ b → cond b (some k) (first_from f (suc k) m) ≡ some n → Found f k (suc m) n
    go ih true q e =
        let w : k ≡ n = some-injective _ _ e in
        record { low = omega arith; high = omega arith; holds = ap f (sym w) ∙ q; least = λ j a b. absurd (omega arith) }
    go ih false q e =
        let r = ih e in
        record {
          low = omega (arith, r.low);
          high = omega (arith, r.high);
          holds = r.holds;
          least = λ j a b. ⊎_elim (λ w. ap f (sym w) ∙ q) (λ l. r.least j l b) (eq-or-lt_of_le a);
        }

pub none_is : (f : ℕ → Bool) (k m : ℕ) → first_from f k m ≡ none → (j : ℕ) → k ≤ j → j < k + m → f j ≡ false
none_is f k zero h j a b = absurd (omega arith)
none_is f k (suc m) h j a b = go (none_is f (suc k) m) (f k) refl h
  where
    go :
        (first_from f (suc k) m ≡ none → (j : ℕ) → suc k ≤ j → j < suc k + m → f j ≡ false) → (b : Bool) → f k ≡ b →
        cond b (some k) (first_from f (suc k) m) ≡ none → f j ≡ false
    go ih true q e = absurd (some-ne-none k e)
    go ih false q e = ⊎_elim (λ w. ap f (sym w) ∙ q) (λ l. ih e j l (omega arith)) (eq-or-lt_of_le a)
