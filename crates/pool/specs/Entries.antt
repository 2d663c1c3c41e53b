-- A TABLE FROM Q NUMBERS TO EXPRESSIONS as bytes: an entry has two, the high one first. That of a pool alone is empty.
-- Assumes nothing.
use Rattle.std.specs.Prelude.{ℕ, zero, suc, ◌+◌, ◌*◌, ◌/◌, ◌≤◌, ◌<◌, ◌≡◌, refl, List, [], ◌∷◌, length, get_or}
use Rattle.std.proofs.Common.{◌∙◌, ap, arith, not-suc-le-zero, le_of_suc-le-suc}
use Rattle.kinds.specs.BigEndian.{u16_at}

abbrev pub entries_in : List ℕ → List ℕ
entries_in [] = []
entries_in (a ∷ []) = []
entries_in (a ∷ (b ∷ l)) = (a * 256 + b) ∷ entries_in l

-- how many there are: half as many as bytes, where a last byte by itself is none
pub entries-few : (l : List ℕ) → 2 * length (entries_in l) ≤ length l
entries-few [] = omega arith
entries-few (a ∷ []) = omega arith
entries-few (a ∷ (b ∷ l)) = omega (arith, entries-few l)

pub entries-all : (l : List ℕ) → length l < 2 * length (entries_in l) + 2
entries-all [] = omega arith
entries-all (a ∷ []) = omega arith
entries-all (a ∷ (b ∷ l)) = omega (arith, entries-all l)

pub entries-half : (l : List ℕ) → length l / 2 ≡ length (entries_in l)
entries-half l = omega (arith, entries-few l, entries-all l)

-- a number behind the first
behind : (a b : ℕ) (l : List ℕ) (k j : ℕ) → j ≡ suc (suc k) → u16_at (a ∷ (b ∷ l)) j ≡ u16_at l k
unfolding u16_at
behind a b l k j e =
    let next : j + 1 ≡ suc (suc (k + 1)) = omega (arith, e) in
    let high : get_or (a ∷ (b ∷ l)) j 0 ≡ get_or l k 0 = ap (λ n. get_or (a ∷ (b ∷ l)) n 0) e in
    let low : get_or (a ∷ (b ∷ l)) (j + 1) 0 ≡ get_or l (k + 1) 0 = ap (λ n. get_or (a ∷ (b ∷ l)) n 0) next in
    rw (high, low)

-- an entry is the number that stands there
pub entry_at : (l : List ℕ) (q : ℕ) → q < length (entries_in l) → u16_at l (2 * q) ≡ get_or (entries_in l) q 0
unfolding u16_at
entry_at [] q h = absurd (not-suc-le-zero h)
entry_at (a ∷ []) q h = absurd (not-suc-le-zero h)
entry_at (a ∷ (b ∷ l)) zero h = refl
entry_at (a ∷ (b ∷ l)) (suc q) h = behind a b l (2 * q) (2 * suc q) (omega arith) ∙ entry_at l q (le_of_suc-le-suc h)
