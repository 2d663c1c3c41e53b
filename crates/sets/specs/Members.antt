-- The numbers that a bit array holds, ascending.
-- Assumes nothing: these are definitions.
use Rattle.std.specs.Prelude.{ℕ, zero, suc, ◌/◌, ◌%◌, ◌^◌, ◌<◌, ◌≡◌, Bool, cond, List, [], ◌∷◌, eqb, length, get_or}
use Rattle.search_meaning.specs.Search.{insert}

-- n numbers from i on, those of which f says so
unfoldable pub those : (ℕ → Bool) → ℕ → ℕ → List ℕ
those f i zero = []
those f i (suc n) = cond (f i) (i ∷ those f (suc i) n) (those f (suc i) n)

unfoldable pub bit : List ℕ → ℕ → Bool
bit w e = eqb (get_or w (e / 64) 0 / 2 ^ (e % 64) % 2) 1

unfoldable pub members : List ℕ → List ℕ
members w = those (bit w) 0 512

-- the ninth word counts the members
pub record Good (w : List ℕ) : Type 0 where
  pub whole : length w ≡ 9
  pub size : get_or w 8 0 ≡ length (members w)
  pub few : length (members w) < 513

-- one more
pub record Put (w : List ℕ) (e : ℕ) (w' : List ℕ) : Type 0 where
  pub is : members w' ≡ insert e (members w)
  pub good : Good w'
