-- The test of dimensions, one record after the other.
-- Assumes nothing.
use Prim.Native.Nat.{ℕ, zero, suc, ◌+◌, ◌≤◌, ◌<◌}
use mathlib.Core.Path.{◌≡◌, refl, sym, subst}
use mathlib.Core.Bool.{Bool, true, false, ◌||◌, true≢false}
use mathlib.Core.List.{List, [], ◌∷◌}
use native.Mathlib.Omega.{arith}
use native.Mathlib.Nat.{not-suc-le-zero, le_of_suc-le-suc}
use native.Mathlib.Numerals.{add-one}
use lib.ListN.{length, get_or, take}
use lib.Dec.{eqb}
use borrow.Author.Tests.{eq-eqb, ne_eqb}
use Rattle.map_records.specs.Mapping.{some_none}

pub some-none-at : (l : List ℕ) (i n : ℕ) → i < n → i < length l → get_or l i 0 ≡ 0 → some_none (take n l) ≡ true
unfolding some_none
some-none-at [] i n h k e = absurd (not-suc-le-zero k)
some-none-at (x ∷ l) i zero h k e = absurd (not-suc-le-zero h)
some-none-at (x ∷ l) zero (suc n) h k e = rw (eq-eqb x 0 e)
some-none-at (x ∷ l) (suc i) (suc n) h k e = rw (some-none-at l i n (le_of_suc-le-suc h) (le_of_suc-le-suc k) e) (or_true (eqb x 0))
  where
    or_true : (b : Bool) → (b || true) ≡ true
    or_true true = refl
    or_true false = refl

none-suc : (l : List ℕ) (i : ℕ) → i < length l → some_none (take i l) ≡ false → (get_or l i 0 ≡ 0 → ⊥) → some_none (take (suc i) l) ≡ false
unfolding some_none
none-suc [] i h q e = absurd (not-suc-le-zero h)
none-suc (x ∷ l) zero h q e = rw (ne_eqb x 0 e)
none-suc (x ∷ l) (suc i) h q e = by (λ z. none-suc l i (le_of_suc-le-suc h) z e) (eqb x 0) refl q
  where
    by :
        (some_none (take i l) ≡ false → some_none (take (suc i) l) ≡ false)
        → (b : Bool) → eqb x 0 ≡ b → (b || some_none (take i l)) ≡ false → (eqb x 0 || some_none (take (suc i) l)) ≡ false
    by ih true r q = absurd (true≢false q)
    by ih false r q = rw r (ih q)

pub none-next : (l : List ℕ) (i : ℕ) → i < length l → some_none (take i l) ≡ false → (get_or l i 0 ≡ 0 → ⊥) → some_none (take (i + 1) l) ≡ false
none-next l i h q e = subst (λ n. some_none (take n l) ≡ false) (sym (add-one i)) (none-suc l i h q e)

pub none_first : (l : List ℕ) → some_none (take 0 l) ≡ false
unfolding some_none
none_first l = refl

pub none-ends : (l : List ℕ) {n i : ℕ} → i ≤ n → n ≤ i → some_none (take i l) ≡ false → false ≡ some_none (take n l)
none-ends l {n} {i} a b q = let e : i ≡ n = omega arith in sym (subst (λ k. some_none (take k l) ≡ false) e q)
