-- The turns of loops: what stands after a number of them, and after one more. No word of the code.
-- Assumes nothing.
use Prim.Native.Nat.{ℕ, suc, ◌+◌, ◌*◌, ◌≤◌, ◌<◌}
use mathlib.Core.Path.{◌≡◌, refl, sym, ◌∙◌, ap}
use mathlib.Core.Bool.{Bool}
use mathlib.Core.List.{List, [], ◌∷◌, ◌++◌}
use native.Mathlib.Decide.{le_ind}
use native.Mathlib.Numerals.{add-one}
use native.Mathlib.Omega.{arith}
use lib.ListN.{length, get_or, set, drop}
use Rattle.kinds.specs.Write.{write, write-none, write-length, write_then}
use Rattle.kinds.specs.Steps.{step_size, step_at, step_bytes, steps_bytes, steps-none, steps-length, steps-bytes-none, steps-bytes-one, steps-bytes-append, steps-bytes-length}
use Rattle.kinds.specs.declared.step.Step.{Step}
use Rattle.builds.specs.Raw.{cell_in, steps_in, start_of, records_from}
use Rattle.builds.specs.Numbered.{stand_to, taken_at, taken_to, list_to, CopyStepsAsks}
use Rattle.builds.specs.Starts.{records-more, start-le}
use Rattle.builds.specs.Lists.{list_length, taken-some, taken-few}
use Rattle.builds.specs.Marking.{release_one, release}

-- ── cells noted ──────────────────────────────────────────────────────────────
pub record Noted (t s₀ s : List ℕ) (n k : ℕ) : Type 0 where
  pub below : k ≤ n
  pub is : s ≡ stand_to t k s₀

pub none-noted : (t s : List ℕ) (n : ℕ) → Noted t s s n 0
unfolding stand_to
none-noted t s n = record { below = omega arith; is = refl }

pub one-noted : {t s₀ s : List ℕ} {n k c : ℕ} → Noted t s₀ s n k → k < n → c ≡ cell_in (get_or t k 0) → Noted t s₀ (set s c 1) n (k + 1)
unfolding stand_to
one-noted {t} {s₀} {s} {n} {k} {c} p h e = record { below = omega arith; is = rw (add-one k, e, p.is) }

pub all_noted : {t s₀ s : List ℕ} {n k : ℕ} → Noted t s₀ s n k → n ≤ k → s ≡ stand_to t n s₀
all_noted {t} {s₀} {s} {n} {k} p h = let e : k ≡ n = omega (arith, p.below) in p.is ∙ ap (λ j. stand_to t j s₀) e

-- ── expressions released ─────────────────────────────────────────────────────
pub record Freed (x s₀ s : List ℕ) (m e : ℕ) : Type 0 where
  pub below : e ≤ m
  pub is : s ≡ release x e s₀

pub none_freed : (x s : List ℕ) (m : ℕ) → Freed x s s m 0
unfolding release
none_freed x s m = record { below = omega arith; is = refl }

pub one_freed : {x s₀ s s' : List ℕ} {m e : ℕ} → Freed x s₀ s m e → e < m → s' ≡ release_one x e s → Freed x s₀ s' m (e + 1)
unfolding release
one_freed {x} {s₀} {s} {s'} {m} {e} p h g =
    record { below = omega arith; is = g ∙ rw (add-one e, p.is) }

pub all_freed : {x s₀ s : List ℕ} {m e : ℕ} → Freed x s₀ s m e → m ≤ e → s ≡ release x m s₀
all_freed {x} {s₀} {s} {m} {e} p h = let q : e ≡ m = omega (arith, p.below) in p.is ∙ ap (λ j. release x j s₀) q

-- ── steps counted ────────────────────────────────────────────────────────────
-- one more block
start-more : (t : List ℕ) (k n : ℕ) → k < n → start_of t k + steps_in (get_or t k 0) ≤ start_of t n
unfolding start_of
start-more t k n h = start-le t (suc k) n h

module _ (skips : ℕ → Bool) (t : List ℕ) where
  taken_more : (k n : ℕ) → k ≤ n → taken_to skips t k ≤ taken_to skips t n
  unfolding taken_to
  taken_more k n h = le_ind (λ n. taken_to skips t k ≤ taken_to skips t n) (omega arith) (λ n g e. omega arith) n h

  taken_next : (k n : ℕ) → k < n → taken_to skips t k + taken_at skips t k ≤ taken_to skips t n
  unfolding taken_to
  taken_next k n h = taken_more (suc k) n h

  pub record Counted (n k steps : ℕ) : Type 0 where
    pub below : k ≤ n
    pub is : steps ≡ taken_to skips t k

  pub none-counted : (n : ℕ) → Counted n 0 0
  unfolding taken_to
  none-counted n = record { below = omega arith; is = refl }

  pub one-fits : {n k steps r : ℕ} → start_of t n ≤ 65535 → Counted n k steps → k < n → r ≡ taken_at skips t k → steps + r ≤ 65535
  one-fits {n} {k} s p h e = omega (arith, taken_next k n h, taken-few skips t n, p.is)

  pub one-counted : {n k steps r : ℕ} → Counted n k steps → k < n → r ≡ taken_at skips t k → Counted n (k + 1) (steps + r)
  unfolding taken_to
  one-counted {n} {k} p h e = record { below = omega arith; is = rw (add-one k) (omega (arith, p.is)) }

  pub all-counted : {n k steps : ℕ} → Counted n k steps → n ≤ k → steps ≡ taken_to skips t n
  all-counted {n} {k} p h = let q : k ≡ n = omega (arith, p.below) in p.is ∙ ap (taken_to skips t) q

-- ── steps copied ─────────────────────────────────────────────────────────────
pub record Copied (l o₀ o : List ℕ) (from to count i : ℕ) : Type 0 where
  pub below : i ≤ count
  pub size : length o ≡ length o₀
  pub is : o ≡ write o₀ (step_size * to) (steps_bytes (records_from l from i))

pub none-copied : (l o : List ℕ) (from to count : ℕ) → Copied l o o from to count 0
none-copied l o from to count =
    record { below = omega arith; size = refl; is = rw (steps-none, steps-bytes-none) (sym (write-none o (step_size * to))) }

pub one-copied :
    {l o₀ o o' : List ℕ} {from to count i : ℕ} {s : Step} → Copied l o₀ o from to count i → i < count → s ≡ step_at l (step_size * (from + i)) →
    o' ≡ write o (step_size * (to + i)) (step_bytes s) → Copied l o₀ o' from to count (i + 1)
one-copied {l} {o₀} {o} {o'} {from} {to} {count} {i} {s} p h e g =
    let r = records_from l from i in
    let n : step_size * to + length (steps_bytes r) ≡ step_size * (to + i) = omega (arith, steps-bytes-length r, steps-length (drop (step_size * from) l) i) in
    let c : steps_bytes (records_from l from (i + 1)) ≡ steps_bytes r ++ step_bytes s
    = rw (add-one i, records-more l from i, ← e, steps-bytes-append r (s ∷ []), steps-bytes-one s) in
    record {
      below = omega arith;
      size = ap length g ∙ write-length o (step_size * (to + i)) (step_bytes s) ∙ p.size;
      is = g ∙ rw (p.is, c) (write_then o₀ (step_size * to) (steps_bytes r) (step_size * (to + i)) (step_bytes s) n);
    }

pub all-copied : {l o₀ o : List ℕ} {from to count i : ℕ} → Copied l o₀ o from to count i → count ≤ i → o ≡ write o₀ (step_size * to) (steps_bytes (records_from l from count))
all-copied {l} {o₀} {o} {from} {to} {count} {i} p h =
    let q : i ≡ count = omega (arith, p.below) in
    p.is ∙ ap (λ j. write o₀ (step_size * to) (steps_bytes (records_from l from j))) q

-- ── blocks copied ────────────────────────────────────────────────────────────
pub record Listed (skips : ℕ → Bool) (t l o₀ o : List ℕ) (n k from to : ℕ) : Type 0 where
  pub below : k ≤ n
  pub size : length o ≡ length o₀
  pub source : from ≡ start_of t k
  pub place : to ≡ taken_to skips t k
  pub is : o ≡ write o₀ 0 (steps_bytes (list_to skips t l k))

pub none-listed : (skips : ℕ → Bool) (t l o : List ℕ) (n : ℕ) → Listed skips t l o o n 0 0 0
unfolding start_of taken_to list_to
none-listed skips t l o n = record { below = omega arith; size = refl; source = refl; place = refl; is = rw steps-bytes-none (sym (write-none o 0)) }

module _ {skips : ℕ → Bool} {t l o₀ o : List ℕ} {n k from to : ℕ} (p : Listed skips t l o₀ o n k from to) (h : k < n) {r : ℕ} (e : r ≡ taken_at skips t k) where
  pub block-fits : step_size * start_of t n ≤ length l → step_size * taken_to skips t n ≤ length o₀ → CopyStepsAsks (length l) (length o) from to r
  block-fits a b =
      record {
        there = omega (arith, p.source, e, taken-some skips t k, start-more t k n h);
        fits = omega (arith, p.place, e, p.size, taken_next skips t k n h);
      }

  pub source-small : {v : ℕ} → v ≡ steps_in (get_or t k 0) → from + v ≤ start_of t n
  source-small g = omega (arith, p.source, start-more t k n h)

  pub place-small : to + r ≤ start_of t n
  place-small = omega (arith, p.place, e, taken_next skips t k n h, taken-few skips t n)

  pub one-listed :
      {o' : List ℕ} {v : ℕ} → o' ≡ write o (step_size * to) (steps_bytes (records_from l from r)) → v ≡ steps_in (get_or t k 0) →
      Listed skips t l o₀ o' n (k + 1) (from + v) (to + r)
  unfolding start_of taken_to list_to
  one-listed {o'} {v} g f =
      let done = list_to skips t l k in
      let q : 0 + length (steps_bytes done) ≡ step_size * to = omega (arith, steps-bytes-length done, list_length skips t l k, p.place) in
      record {
        below = omega arith;
        size = ap length g ∙ write-length o (step_size * to) (steps_bytes (records_from l from r)) ∙ p.size;
        source = rw (add-one k) (omega (arith, p.source, f));
        place = rw (add-one k) (omega (arith, p.place, e));
        is =
            g
            ∙ rw (add-one k, p.is, steps-bytes-append done (records_from l (start_of t k) (taken_at skips t k)), p.source, e)
            (write_then o₀ 0 (steps_bytes done) (step_size * to) (steps_bytes (records_from l (start_of t k) (taken_at skips t k))) q);
      }

pub all_listed : {skips : ℕ → Bool} {t l o₀ o : List ℕ} {n k from to : ℕ} → Listed skips t l o₀ o n k from to → n ≤ k → o ≡ write o₀ 0 (steps_bytes (list_to skips t l n))
all_listed {skips} {t} {l} {o₀} {o} {n} {k} p h = let q : k ≡ n = omega (arith, p.below) in p.is ∙ ap (λ j. write o₀ 0 (steps_bytes (list_to skips t l j))) q
