-- A list of zeros, and a number below another or not.
-- Assumes nothing.
use Rattle.std.specs.Prelude.{◌≡◌, refl, Bool, true, false, ◌⊎◌, ℕ, ◌≤◌, ◌<◌, get_or, replicate, ltb}
use Rattle.std.proofs.Common.{inl, inr, ⊎_elim, ltb-true, ltb-false}
use Rattle.std.proofs.lemmas.List.{length-replicate, get_or-replicate}
use Rattle.std.proofs.Math.ListN.{get_or-eq_default}

pub below_or : (a b : ℕ) → (a < b) ⊎ (b ≤ a)
below_or a b = by (ltb a b) refl
  where
    by : (t : Bool) → ltb a b ≡ t → (a < b) ⊎ (b ≤ a)
    by true e = inl (ltb-true a b e)
    by false e = inr (ltb-false a b e)

-- at any place, also past its end
pub zeros-at : (n j : ℕ) → get_or {A = ℕ} (replicate n 0) j 0 ≡ 0
zeros-at n j = ⊎_elim (λ h. get_or-replicate n j 0 0 h) (λ h. get_or-eq_default (replicate n 0) 0 (rw length-replicate h)) (below_or j n)
