-- A block table has room for the blocks of jobs: no cell has two blocks, and a job's cell has no mark, while a block's has one.
-- Assumes nothing.
use Rattle.std.specs.Prelude.{ℕ, zero, suc, ◌+◌, ◌<◌, ◌≤◌, ◌≡◌, List, [], ◌∷◌, length, get_or, set}
use Rattle.std.proofs.Common.{◌∙◌, arith, not-suc-le-zero, le_of_suc-le-suc, length-set, get_or-set_other}
use Rattle.meaning.specs.Trees.{Each}
use Rattle.meaning.specs.Order.{Job}
use Rattle.meaning.proofs.Laws.Once.{Chain}
use Rattle.pool.specs.Ranking.{zeros}
use Rattle.starkinfo_codegen.specs.Ordering.{marks_of}
use Rattle.starkinfo_codegen.specs.Marked.{chain_room}
use Rattle.context.specs.Context.{cells}
use Rattle.context.specs.Held.{word_cell, Sound}

-- a mark taken away
zeros-clear : (l : List ℕ) (c : ℕ) → c < length l → get_or l c 0 ≡ 1 → zeros (set l c 0) ≡ zeros l + 1
unfolding zeros
zeros-clear [] c h e = absurd (not-suc-le-zero h)
zeros-clear (zero ∷ l) zero h e = absurd (omega (arith, e))
zeros-clear (suc x ∷ l) zero h e = omega arith
zeros-clear (zero ∷ l) (suc c) h e = omega (arith, zeros-clear l c (le_of_suc-le-suc h) e)
zeros-clear (suc x ∷ l) (suc c) h e = zeros-clear l c (le_of_suc-le-suc h) e

zeros-few : (l : List ℕ) → zeros l ≤ length l
unfolding zeros
zeros-few [] = omega arith
zeros-few (zero ∷ l) = omega (arith, zeros-few l)
zeros-few (suc x ∷ l) = omega (arith, zeros-few l)

-- n cells, no two the same, each marked
marked-cells :
    (t s : List ℕ) (n : ℕ) → ((k : ℕ) → k < n → word_cell (get_or t k 0) < length s) → ((k : ℕ) → k < n → get_or s (word_cell (get_or t k 0)) 0 ≡ 1) →
    ((i k : ℕ) → i < k → k < n → word_cell (get_or t i 0) ≡ word_cell (get_or t k 0) → ⊥) → n + zeros s ≤ length s
marked-cells t s zero inside marked apart = omega (arith, zeros-few s)
marked-cells t s (suc n) inside marked apart =
    let c = word_cell (get_or t n 0) in
    let size = length-set s c 0 in
    let ih = marked-cells t (set s c 0) n (λ k h. omega (arith, inside k (omega arith), size))
    (λ k h. get_or-set_other s c (word_cell (get_or t k 0)) 0 0 (λ e. apart k n h (omega arith) e) ∙ marked k (omega arith))
    (λ i k h g. apart i k h (omega arith)) in
    omega (arith, ih, zeros-clear s c (inside n (omega arith)) (marked n (omega arith)), size)

-- THE ROOM
pub table-room :
    {s t : List ℕ} {n steps m room : ℕ} → Sound s t n steps m room → length s ≡ cells → m ≤ 512 → (js : List Job) → Each (λ j. (j.expression < m) × (j.row < 2)) js →
    Chain (marks_of s) js → n + length js ≤ cells
table-room {s} {t} {n} {m = m} a size few js there once =
    let blocks = marked-cells t s n (λ k h. omega (arith, size)) (λ k h. (a.each_word k h).marked) a.apart in
    omega (arith, blocks, chain_room s js m (omega (arith, size)) there once, size)
