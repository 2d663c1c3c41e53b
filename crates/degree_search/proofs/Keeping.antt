-- The size and the q of a candidate, and the tally that each begins with.
-- Assumes nothing.
use Prim.Native.Nat.{ℕ, zero, suc, ◌+◌, ◌-◌, ◌<◌, ◌≤◌}
use mathlib.Core.Path.{◌≡◌, refl, sym, ◌∙◌, ap, ap₂}
use mathlib.Core.Bool.{Bool, true, false, ◌||◌}
use native.Mathlib.Omega.{arith}
use lib.Dec.{eqb, ltb}
use borrow.Author.Tests.{eq-eqb, ne_eqb, lt-ltb, le-ltb, ltb-true, ltb-false}
use Rattle.search_meaning.specs.Search.{q_of}
use Rattle.degree_rule.specs.Tallies.{Counts, Whole}
use Rattle.degree_search.specs.Choosing.{Fresh, Ready}

-- ── size and q ───────────────────────────────────────────────────────────────
pub q-none : (d : ℕ) → d ≡ 0 → 18446744073709551615 ≡ q_of d
q-none zero h = refl
q-none (suc d) h = absurd (omega arith)

pub q-some : (d : ℕ) → (d ≡ 0 → ⊥) → d - 1 ≡ q_of d
q-some zero h = absurd (h refl)
q-some (suc d) h = omega arith

module _ (s q o p : ℕ) (hs : s < 513) (ho : o < 513) where
  module _ (l : q < p) {m : ℕ} (e : m ≡ p - q) where
    pub lighter_far : 512 < m → true ≡ ltb (s + q) (o + p)
    lighter_far h = sym (lt-ltb (s + q) (o + p) (omega arith))

    pub lighter_near : ltb s (o + m) ≡ ltb (s + q) (o + p)
    lighter_near = go (ltb s (o + m)) refl
      where
        go : (b : Bool) → ltb s (o + m) ≡ b → b ≡ ltb (s + q) (o + p)
        go true h = let z : s < o + m = ltb-true _ _ h in sym (lt-ltb (s + q) (o + p) (omega arith))
        go false h = let z : o + m ≤ s = ltb-false _ _ h in sym (le-ltb (s + q) (o + p) (omega arith))

  module _ (l : p ≤ q) {m : ℕ} (e : m ≡ q - p) where
    pub heavier_far : 512 < m → false ≡ ltb (s + q) (o + p)
    heavier_far h = sym (le-ltb (s + q) (o + p) (omega arith))

    pub heavier_near : ltb (s + m) o ≡ ltb (s + q) (o + p)
    heavier_near = go (ltb (s + m) o) refl
      where
        go : (b : Bool) → ltb (s + m) o ≡ b → b ≡ ltb (s + q) (o + p)
        go true h = let z : s + m < o = ltb-true _ _ h in sym (lt-ltb (s + q) (o + p) (omega arith))
        go false h = let z : o ≤ s + m = ltb-false _ _ h in sym (le-ltb (s + q) (o + p) (omega arith))

pub replaces-zero : (k s d o : ℕ) {q : ℕ} → q ≡ q_of k → q ≡ 0 → true ≡ (eqb (q_of k) 0 || ltb (s + q_of d) (o + q_of k))
replaces-zero k s d o e h = rw (eq-eqb (q_of k) 0 (sym e ∙ h))

pub replaces_by : (k s d o : ℕ) {q p : ℕ} → q ≡ q_of k → (q ≡ 0 → ⊥) → p ≡ q_of d → {b : Bool} → b ≡ ltb (s + p) (o + q) → b ≡ (eqb (q_of k) 0 || ltb (s + q_of d) (o + q_of k))
replaces_by k s d o e h f g = g ∙ ap₂ (λ p q. ltb (s + p) (o + q)) f e ∙ sym (ap (λ c. c || ltb (s + q_of d) (o + q_of k)) (ne_eqb (q_of k) 0 (λ z. h (e ∙ z))))

-- ── the tally ────────────────────────────────────────────────────────────────
pub fresh-is : (n : ℕ) → n < 0x10000000000000000 → Fresh n (record { cut = 0; visits = 0; limit = n; degree = 2 })
fresh-is n h = record { whole = record { fits = h }; visits = refl; limit = refl }

pub ready-is : (y : Counts) → Whole y → (d : ℕ) → Ready y d (record { cut = 0; visits = y.visits; limit = y.limit; degree = d })
ready-is y w d = record { whole = record { fits = w.fits }; cut = refl; visits = refl; limit = refl; degree = refl }
