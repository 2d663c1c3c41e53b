-- The empty set: nine words of 0.
-- Assumes nothing.
use Rattle.std.specs.Prelude.{ℕ, zero, suc, ◌/◌, ◌%◌, ◌^◌, ◌≡◌, refl, Bool, false, List, [], ◌∷◌, get_or}
use Rattle.std.proofs.Common.{arith, pow_pos}
use Rattle.std.proofs.Math.Nat.{div-eq_of_lt}
use Rattle.sets.specs.Members.{those, bit, members, Good}

abbrev pub blank : List ℕ
blank = 0 ∷ 0 ∷ 0 ∷ 0 ∷ 0 ∷ 0 ∷ 0 ∷ 0 ∷ 0 ∷ []

those-none : (f : ℕ → Bool) (i n : ℕ) → ((j : ℕ) → f j ≡ false) → those f i n ≡ []
unfolding those
those-none f i zero h = refl
those-none f i (suc n) h = rw (h i) (those-none f (suc i) n h)

nought : (k : ℕ) → ◌≡◌ {A = ℕ} (get_or blank k 0) 0
nought zero = refl
nought (suc zero) = refl
nought (suc (suc zero)) = refl
nought (suc (suc (suc zero))) = refl
nought (suc (suc (suc (suc zero)))) = refl
nought (suc (suc (suc (suc (suc zero))))) = refl
nought (suc (suc (suc (suc (suc (suc zero)))))) = refl
nought (suc (suc (suc (suc (suc (suc (suc zero))))))) = refl
nought (suc (suc (suc (suc (suc (suc (suc (suc zero)))))))) = refl
nought (suc (suc (suc (suc (suc (suc (suc (suc (suc k))))))))) = refl

pub blank_none : members blank ≡ []
unfolding members bit
blank_none = those-none (bit blank) 0 512 (λ j. rw (nought (j / 64), div-eq_of_lt {n = 0} {m = 2 ^ (j % 64)} (pow_pos (j % 64))))

pub blank-good : Good blank
blank-good = record { whole = refl; size = rw blank_none; few = rw blank_none (omega arith) }
