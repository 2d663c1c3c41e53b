-- A number of two bytes in a list, the high byte first.
-- Assumes nothing.
use Rattle.std.specs.Prelude.{◌≡◌, refl, List, [], ◌∷◌, ℕ, ◌+◌, ◌*◌, ◌/◌, ◌%◌, ◌≤◌, length, get_or}
use Rattle.std.proofs.Common.{add-zero, div-add-mod', arith}
use Rattle.kinds.specs.Records.{Same, same-part, Layout}

unfoldable pub u16_at : List ℕ → ℕ → ℕ
u16_at l i = get_or l i 0 * 256 + get_or l (i + 1) 0

unfoldable pub u16_bytes : ℕ → List ℕ
u16_bytes x = x / 256 ∷ x % 256 ∷ []

pub u16-same : (l : List ℕ) (i : ℕ) (m : List ℕ) (j : ℕ) → Same 2 l i m j → u16_at l i ≡ u16_at m j
unfolding u16_at Same
u16-same l i m j h =
    let h0 : get_or l i 0 ≡ get_or m j 0 = simp add-zero at (h 0 (omega arith)) in
    cc (h 1 (omega arith))

pub u16-back : (x : ℕ) → u16_at (u16_bytes x) 0 ≡ x
unfolding u16_at u16_bytes
u16-back x = simp div-add-mod'

pub u16-sized : (x : ℕ) → length (u16_bytes x) ≡ 2
unfolding u16_bytes
u16-sized x = refl

abbrev pub u16_layout : Layout ℕ
u16_layout = record { size = 2; at = u16_at; words = u16_bytes; sized = u16-sized; same = u16-same; back = u16-back }

-- a number of two bytes that stands a further on than i and j, among n that are the same
pub u16-part : (n : ℕ) (l : List ℕ) (i : ℕ) (m : List ℕ) (j a : ℕ) → a + 2 ≤ n → Same n l i m j → u16_at l (i + a) ≡ u16_at m (j + a)
u16-part n l i m j a g h = u16-same l (i + a) m (j + a) (same-part n l i m j a 2 g h)
