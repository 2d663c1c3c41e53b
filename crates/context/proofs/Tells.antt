-- A test that is true exactly when a property holds.
-- Assumes nothing.
use Prim.Native.Nat.{ℕ, ◌<◌}
use mathlib.Core.Path.{◌≡◌, refl, sym, subst}
use mathlib.Core.Bool.{Bool, true, false}
use mathlib.Core.List.{List}
use native.Mathlib.Omega.{arith}
use lib.ListN.{length, get_or}
use Rattle.std.proofs.lemmas.List.FromFn.{length-range_with_len, get_or-range_with_len}
use Rattle.std.specs.Bool.{MatchBool}
use Rattle.std.specs.List.{range_with_len, AllWithin, HoldsAt}
use Rattle.context.specs.Context.{Exactly}

false-true : false ≡ true → ⊥
false-true e = let z : ◌≡◌ {A = ℕ} 0 1 = cc in omega arith

pub not_so : {P : Type 0} → (P → ⊥) → Exactly false P
not_so n = (λ e. absurd (false-true e), λ p. absurd (n p))

pub is_so : {P : Type 0} → P → Exactly true P
is_so p = (λ e. p, λ q. refl)

-- a test of all numbers below n
module _ (P : ℕ → Type 0) (n : ℕ) where
  abbrev pub numbers : List ℕ
  numbers = range_with_len 0 n

  at_each : (k d : ℕ) → k < n → get_or numbers k d ≡ k
  at_each k d h = omega (arith, get_or-range_with_len 0 n k d h)

  pub each_so :
      (r : Bool)
      → MatchBool r (AllWithin P numbers 0 (length numbers)) ((k : ℕ) × (k < length numbers) × HoldsAt (λ k. P k → ⊥) numbers k)
      → Exactly r ((k : ℕ) → k < n → P k)
  each_so true h =
      let s = length-range_with_len 0 n in
      is_so (λ k g. subst P (at_each k 0 g) (h k 0 (omega arith) (omega (arith, s))))
  each_so false h =
      let s = length-range_with_len 0 n in
      let g : h.0 < n = omega (arith, s, h.1) in
      not_so (λ p. h.2 0 (subst P (sym (at_each h.0 0 g)) (p h.0 g)))
