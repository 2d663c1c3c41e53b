-- The turns of the loops that look for a block, count its place and move steps up; and a copy put in. No word of the code.
-- Assumes nothing.
use Prim.Native.Nat.{ℕ, zero, suc, ◌+◌, ◌*◌, ◌-◌, ◌≤◌, ◌<◌}
use mathlib.Core.Path.{◌≡◌, refl, sym, ◌∙◌, ap}
use mathlib.Core.List.{List, [], ◌∷◌, ◌++◌}
use mathlib.Core.Logic.{inl}
use native.Mathlib.Decide.{le_ind}
use native.Mathlib.Nat.{add-zero}
use native.Mathlib.Numerals.{add-one}
use native.Mathlib.Omega.{arith}
use lib.ListN.{length, get_or, set, drop}
use lib.Seq.{set_comm, drop-drop}
use borrow.Author.Tests.{eq-eqb, ne_eqb}
use Rattle.kinds.specs.Write.{write, write-none, write-length, write-append}
use Rattle.kinds.specs.Steps.{step_size, step_at, step_bytes, steps_of, steps_bytes, step-sized, step_kept, steps-none, steps-more, steps-split, steps-bytes-none, steps-bytes-one, steps-bytes-append}
use Rattle.kinds.specs.declared.reference.Reference.{Reference}
use Rattle.kinds.specs.declared.step.Step.{Step}
use Rattle.starkinfo_codegen.specs.Sources.{copy_step}
use Rattle.builds.specs.Raw.{cell_in, steps_in, start_of, records_from}
use Rattle.builds.specs.Starts.{step-drop, start-next, start-le}
use Rattle.builds.specs.Results.{find_block, inserted}
use Rattle.std.specs.Prelude.{Option, Some, None, MatchOption}
use Rattle.std.specs.List.{AllWithin, HoldsAt}
use Rattle.std.proofs.Common.{get_or-take}
use lib.ListN.{take, length-take}

-- ── the block of a cell ──────────────────────────────────────────────────────
find-none : (t : List ℕ) (n c : ℕ) → ((k : ℕ) → k < n → cell_in (get_or t k 0) ≡ c → ⊥) → find_block t n c ≡ None
unfolding find_block
find-none t zero c h = refl
find-none t (suc n) c h = rw (find-none t n c (λ k g. h k (omega arith)), ne_eqb (cell_in (get_or t n 0)) c (h n (omega arith)))

find-there : (t : List ℕ) (n c i : ℕ) → i < n → cell_in (get_or t i 0) ≡ c → ((k : ℕ) → k < i → cell_in (get_or t k 0) ≡ c → ⊥) → find_block t n c ≡ Some i
unfolding find_block
find-there t n c i l e h =
    let z : find_block t (suc i) c ≡ Some i = rw (find-none t i c h, eq-eqb (cell_in (get_or t i 0)) c e) in
    le_ind (λ n. find_block t n c ≡ Some i) z (λ n o q. rw q) n l

-- what `position` among the first n words answers
pub find-first :
    (t : List ℕ) (n c : ℕ) (r : Option ℕ) → n ≤ length t
    → MatchOption r
    (AllWithin (λ w. cell_in w ≡ c → ⊥) (take n t) 0 (length (take n t)))
    (λ i. (i < length (take n t)) × HoldsAt (λ w. cell_in w ≡ c) (take n t) i × AllWithin (λ w. cell_in w ≡ c → ⊥) (take n t) 0 i)
    → r ≡ find_block t n c
find-first t n c r few h = by r h
  where
    all : length (take n t) ≡ n
    all = simp length-take (omega arith)

    at : (k : ℕ) → k < n → get_or (take n t) k 0 ≡ get_or t k 0
    at k j = get_or-take n t k 0 j

    by :
        (r : Option ℕ)
        → MatchOption r
        (AllWithin (λ w. cell_in w ≡ c → ⊥) (take n t) 0 (length (take n t)))
        (λ i. (i < length (take n t)) × HoldsAt (λ w. cell_in w ≡ c) (take n t) i × AllWithin (λ w. cell_in w ≡ c → ⊥) (take n t) 0 i)
        → r ≡ find_block t n c
    by None h = sym (find-none t n c (λ k j e. h k 0 (omega arith) (omega (arith, all)) (ap cell_in (at k j) ∙ e)))
    by (Some i) h =
        let j : i < n = omega (arith, h.0, all) in
        sym (find-there t n c i j (ap cell_in (sym (at i j)) ∙ h.1 0) (λ k m e. h.2 k 0 (omega arith) m (ap cell_in (at k (omega arith)) ∙ e)))

-- ── where a block starts ─────────────────────────────────────────────────────
pub record Passed (t : List ℕ) (n k steps : ℕ) : Type 0 where
  pub below : k ≤ n
  pub is : steps ≡ start_of t k

pub none_passed : (t : List ℕ) (n : ℕ) → Passed t n 0 0
unfolding start_of
none_passed t n = record { below = omega arith; is = refl }

module _ {t : List ℕ} {n k steps : ℕ} (p : Passed t n k steps) (h : k < n) {v : ℕ} (e : v ≡ steps_in (get_or t k 0)) where
  pub passed-small : steps + v ≤ start_of t n
  passed-small = omega (arith, p.is, start-next t k, start-le t (suc k) n h)

  pub one-passed : Passed t n (k + 1) (steps + v)
  one-passed = record { below = omega arith; is = rw (add-one k) (omega (arith, p.is, start-next t k)) }

pub all-passed : {t : List ℕ} {n k steps : ℕ} → Passed t n k steps → n ≤ k → steps ≡ start_of t n
all-passed {t} {n} {k} p h = let q : k ≡ n = omega (arith, p.below) in p.is ∙ ap (start_of t) q

-- ── writes in front of each other ────────────────────────────────────────────
set-write : (l : List ℕ) (i x j : ℕ) (ys : List ℕ) → i < j → set (write l j ys) i x ≡ write (set l i x) j ys
unfolding write
set-write l i x j [] h = refl
set-write l i x j (y ∷ ys) h = set-write (set l j y) i x (suc j) ys (omega arith) ∙ rw (set_comm l j i y x (λ e. omega arith))

write-apart : (l : List ℕ) (i : ℕ) (xs : List ℕ) (j : ℕ) (ys : List ℕ) → i + length xs ≤ j → write (write l j ys) i xs ≡ write (write l i xs) j ys
unfolding write
write-apart l i [] j ys h = refl
write-apart l i (x ∷ xs) j ys h = rw (set-write l i x j ys (omega arith)) (write-apart (set l i x) (suc i) xs j ys (omega arith))

-- a run written in front of another is one run with it
write-front : (l : List ℕ) (i : ℕ) (xs : List ℕ) (j : ℕ) (ys : List ℕ) → i + length xs ≡ j → write (write l j ys) i xs ≡ write l i (xs ++ ys)
write-front l i xs j ys e = write-apart l i xs j ys (omega arith) ∙ rw (← e) (sym (write-append l i xs ys))

-- the records from a step on: its own, and those from the next on
records_cons : (l : List ℕ) (at n : ℕ) → records_from l at (suc n) ≡ step_at l (step_size * at) ∷ records_from l (suc at) n
records_cons l at n =
    let d = drop (step_size * at) l in
    let one : steps_of d 1 ≡ step_at l (step_size * at) ∷ []
    = steps-more d 0 ∙ rw (steps-none d, step-drop l (step_size * at) (step_size * 0), add-zero (step_size * at)) in
    let z : 1 + n ≡ suc n = omega arith in
    let y : step_size * at + step_size * 1 ≡ step_size * suc at = omega arith in
    rw (← z) (steps-split d 1 n ∙ rw (one, drop-drop (step_size * 1) (step_size * at) l, y))

-- ── steps moved up ───────────────────────────────────────────────────────────
pub record Moved (l₀ l : List ℕ) (pos end k : ℕ) : Type 0 where
  pub low : pos ≤ k
  pub high : k ≤ end
  pub size : length l ≡ length l₀
  pub is : l ≡ write l₀ (step_size * (k + 1)) (steps_bytes (records_from l₀ k (end - k)))

pub none-moved : (l : List ℕ) (pos end : ℕ) → pos ≤ end → Moved l l pos end end
none-moved l pos end h =
    let z : end - end ≡ 0 = omega arith in
    record { low = h; high = omega arith; size = refl; is = rw (z, steps-none, steps-bytes-none) (sym (write-none l (step_size * (end + 1)))) }

pub one-moved :
    {l₀ l l' : List ℕ} {pos end k : ℕ} {s : Step} → Moved l₀ l pos end k → pos < k → s ≡ step_at l (step_size * (k - 1)) → l' ≡ write l (step_size * (k - 1 + 1)) (step_bytes s) →
    Moved l₀ l' pos end (k - 1)
one-moved {l₀} {l} {l'} {pos} {end} {k} {s} p h e w =
    let u : k - 1 + 1 ≡ k = omega arith in
    let g : l' ≡ write l (step_size * k) (step_bytes s) = rw u at w in
    let rs = records_from l₀ k (end - k) in
    let s₀ : s ≡ step_at l₀ (step_size * (k - 1))
    = e ∙ rw p.is (step_kept l₀ (step_size * (k + 1)) (steps_bytes rs) (step_size * (k - 1)) (inl (omega arith))) in
    let z : suc (k - 1) ≡ k = omega arith in
    let y : end - (k - 1) ≡ suc (end - k) = omega (arith, p.high) in
    let c : records_from l₀ (k - 1) (end - (k - 1)) ≡ s ∷ rs = rw (y, records_cons l₀ (k - 1) (end - k), z, ← s₀) in
    let b : steps_bytes (s ∷ rs) ≡ step_bytes s ++ steps_bytes rs = steps-bytes-append (s ∷ []) rs ∙ rw (steps-bytes-one s) in
    let n : step_size * k + length (step_bytes s) ≡ step_size * (k + 1) = omega (arith, step-sized s) in
    record {
      low = omega arith;
      high = omega (arith, p.high);
      size = ap length g ∙ write-length l (step_size * k) (step_bytes s) ∙ p.size;
      is = g ∙ rw (u, c, b, p.is) (write-front l₀ (step_size * k) (step_bytes s) (step_size * (k + 1)) (steps_bytes rs) n);
    }

pub all_moved : {l₀ l : List ℕ} {pos end k : ℕ} → Moved l₀ l pos end k → k ≤ pos → l ≡ write l₀ (step_size * (pos + 1)) (steps_bytes (records_from l₀ pos (end - pos)))
all_moved {l₀} {l} {pos} {end} {k} p h =
    let q : k ≡ pos = omega (arith, p.low) in
    p.is ∙ ap (λ j. write l₀ (step_size * (j + 1)) (steps_bytes (records_from l₀ j (end - j)))) q

-- ── a copy put in ────────────────────────────────────────────────────────────
pub copy-inserted :
    (l : List ℕ) (pos end : ℕ) (d : Reference) {l₁ l₂ : List ℕ} {x s : Step} → x ≡ step_at l (step_size * (pos - 1)) → s ≡ copy_step d x.dest →
    l₁ ≡ write l (step_size * (pos + 1)) (steps_bytes (records_from l pos (end - pos))) → l₂ ≡ write l₁ (step_size * pos) (step_bytes s) → l₂ ≡ inserted l pos end d
unfolding inserted
copy-inserted l pos end d {l₁} {l₂} {x} {s} e f g h =
    let n : step_size * pos + length (step_bytes s) ≡ step_size * (pos + 1) = omega (arith, step-sized s) in
    let c : s ≡ copy_step d (step_at l (step_size * (pos - 1))).dest = f ∙ ap (λ (z : Step). copy_step d z.dest) e in
    h ∙ rw (g, ← c) (write-front l (step_size * pos) (step_bytes s) (step_size * (pos + 1)) (steps_bytes (records_from l pos (end - pos))) n)
