-- Looking for the first number of which a test holds.
-- Assumes nothing.
use Prim.Native.Nat.{ℕ, ◌<◌, ◌≤◌}
use lib.ListN.{length, get_or, take, length-take}
use Rattle.std.proofs.Common.{get_or-take}
use Rattle.std.specs.List.{AllWithin, HoldsAt}
use mathlib.Core.List.{List}
use mathlib.Core.Path.{◌≡◌, sym, ap, ◌∙◌}
use mathlib.Core.Bool.{Bool, true, false}
use native.Mathlib.Omega.{arith}
use Rattle.std.specs.Prelude.{Option, Some, None, MatchOption}
use Rattle.pool.specs.Admission.{first}
use Rattle.pool.specs.Shapes.{found_at}
use Rattle.pool.specs.Laws.First.{found, none_found}

-- what `find` over the numbers below n answers
pub first_by :
    (f : ℕ → Bool) (n : ℕ) (r : Option ℕ)
    → MatchOption r
    ((k : ℕ) → 0 ≤ k → k < n → f k ≡ false)
    (λ i. (0 ≤ i) × (i < n) × (f i ≡ true) × ((k : ℕ) → 0 ≤ k → k < i → f k ≡ false))
    → found_at r ≡ first f n
first_by f n None h = sym (none_found f 0 n (λ j a b. h j a (omega arith)))
first_by f n (Some i) h = sym (found f 0 n i (record { low = h.0; high = omega (arith, h.1); holds = h.2; least = h.3 }))

-- what `position` among the first n elements answers
pub first_in :
    (g : ℕ → Bool) (l : List ℕ) (n : ℕ) (r : Option ℕ) → n ≤ length l
    → MatchOption r
    (AllWithin (λ b. g b ≡ false) (take n l) 0 (length (take n l)))
    (λ i. (i < length (take n l)) × HoldsAt (λ b. g b ≡ true) (take n l) i × AllWithin (λ b. g b ≡ false) (take n l) 0 i)
    → found_at r ≡ first (λ k. g (get_or l k 0)) n
first_in g l n r few h = first_by (λ k. g (get_or l k 0)) n r (by r h)
  where
    all : length (take n l) ≡ n
    all = simp length-take (omega arith)

    at : (k : ℕ) → k < n → get_or (take n l) k 0 ≡ get_or l k 0
    at k j = get_or-take n l k 0 j

    by :
        (r : Option ℕ)
        → MatchOption r
        (AllWithin (λ b. g b ≡ false) (take n l) 0 (length (take n l)))
        (λ i. (i < length (take n l)) × HoldsAt (λ b. g b ≡ true) (take n l) i × AllWithin (λ b. g b ≡ false) (take n l) 0 i)
        → MatchOption r
        ((k : ℕ) → 0 ≤ k → k < n → g (get_or l k 0) ≡ false)
        (λ i. (0 ≤ i) × (i < n) × (g (get_or l i 0) ≡ true) × ((k : ℕ) → 0 ≤ k → k < i → g (get_or l k 0) ≡ false))
    by None h = λ k a j. ap g (sym (at k j)) ∙ h k 0 a (omega (arith, all))
    by (Some i) h =
        let j : i < n = omega (arith, h.0, all) in
        (omega arith, j, ap g (sym (at i j)) ∙ h.1 0, λ k a m. ap g (sym (at k (omega arith))) ∙ h.2 k 0 a m)
