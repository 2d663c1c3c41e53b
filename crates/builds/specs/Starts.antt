-- The records of a list from a step on, where blocks start, and blocks one by one.
-- Assumes nothing.
use Rattle.std.specs.Prelude.{ℕ, zero, suc, ◌+◌, ◌*◌, ◌<◌, ◌≤◌, ◌≡◌, refl, List, [], ◌∷◌, ◌++◌, get_or, drop}
use Rattle.std.proofs.Common.{sym, ◌∙◌, append_assoc, append-nil, add-zero, arith, drop-drop}
use Rattle.std.proofs.Math.Decide.{le_ind}
use Rattle.kinds.specs.Records.{same_drop}
use Rattle.kinds.specs.Steps.{step_size, step_at, step_same, steps-none, steps-more, steps-split}
use Rattle.frames.specs.Tables.{first}
use Rattle.builds.specs.Raw.{RawBlock, steps_in, start_of, records_from}

-- ── records ──────────────────────────────────────────────────────────────────
pub step-drop : (l : List ℕ) (j i : ℕ) → step_at (drop j l) i ≡ step_at l (j + i)
step-drop l j i = step_same (drop j l) i l (j + i) (same_drop step_size l j i)

-- one record more
pub records-more : (l : List ℕ) (at i : ℕ) → records_from l at (suc i) ≡ records_from l at i ++ (step_at l (step_size * (at + i)) ∷ [])
records-more l at i =
    let e : step_size * at + step_size * i ≡ step_size * (at + i) = omega arith in
    rw (steps-more (drop (step_size * at) l) i, step-drop l (step_size * at) (step_size * i), e)

-- records that are the same one by one
pub records-same :
    (l m : List ℕ) (a b n : ℕ) → ((i : ℕ) → i < n → step_at m (step_size * (b + i)) ≡ step_at l (step_size * (a + i))) → records_from m b n ≡ records_from l a n
records-same l m a b zero h = steps-none _ ∙ sym (steps-none _)
records-same l m a b (suc n) h = records-more m b n ∙ rw (records-same l m a b n (λ i g. h i (omega arith)), h n (omega arith)) (sym (records-more l a n))

-- some records, and those after them
pub records-split : (l : List ℕ) (at m n : ℕ) → records_from l at (m + n) ≡ records_from l at m ++ records_from l (at + m) n
records-split l at m n =
    let e : step_size * at + step_size * m ≡ step_size * (at + m) = omega arith in
    steps-split (drop (step_size * at) l) m n ∙ rw (drop-drop (step_size * m) (step_size * at) l, e)

-- ── starts ───────────────────────────────────────────────────────────────────
pub start-next : (t : List ℕ) (k : ℕ) → start_of t (suc k) ≡ start_of t k + steps_in (get_or t k 0)
unfolding start_of
start-next t k = refl

pub start-le : (t : List ℕ) (k n : ℕ) → k ≤ n → start_of t k ≤ start_of t n
unfolding start_of
start-le t k n h = le_ind (λ n. start_of t k ≤ start_of t n) (omega arith) (λ n g e. omega arith) n h

-- ── blocks one by one ────────────────────────────────────────────────────────
-- the m of what g gives from a on
abbrev pub from : (ℕ → RawBlock) → ℕ → ℕ → List RawBlock
from g a zero = []
from g a (suc m) = g a ∷ from g (suc a) m

pub first-from : (g : ℕ → RawBlock) (a m : ℕ) → first g (a + m) ≡ first g a ++ from g a m
unfolding first
first-from g a zero = rw add-zero (sym (append-nil (first g a)))
first-from g a (suc m) =
    let e : a + suc m ≡ suc a + m = omega arith in
    rw e (first-from g (suc a) m ∙ append_assoc (first g a) (g a ∷ []) (from g (suc a) m))

pub from-same : (g h : ℕ → RawBlock) (b a m : ℕ) → a + m ≤ b → ((j : ℕ) → a ≤ j → j < b → h j ≡ g j) → from h a m ≡ from g a m
from-same g h b a zero q e = refl
from-same g h b a (suc m) q e = rw (e a (omega arith) (omega arith), from-same g h b (suc a) m (omega arith) (λ j u v. e j (omega arith) v))
