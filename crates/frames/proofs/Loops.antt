-- Where reading stands at an index of the slice: what is left, after what is held, is the whole. For `scan` and for `fill`.
-- Assumes nothing.
use mathlib.Core.Path.{◌≡◌, refl}
use mathlib.Core.List.{List, ◌∷◌}
use mathlib.Core.Option.{none}
use Prim.Native.Nat.{ℕ, ◌+◌, ◌-◌, ◌≤◌, ◌<◌}
use native.Mathlib.Omega.{arith}
use lib.ListN.{length, take, drop}
use borrow.Author.Tests.{le-leb, lt-leb}
use Rattle.std.specs.Prelude.{Result, Ok, Err, None}
use Rattle.kinds.specs.declared.refusal.Refused.{Refused}
use Rattle.kinds.specs.BigEndian.{u16_at}
use Rattle.meaning.specs.Refusals.{Answer, done, refused, malformed, ◌then◌}
use Rattle.frames.specs.Order.{Input, nothing, counts_of, count_of, step, counts_answer}
use Rattle.frames.specs.Tables.{Tables, Sized, Takes, input_in, first}
use Rattle.frames.specs.Taking.{Bytes, take_step, sized-take}
use Rattle.frames.specs.Reading.{frames_in, read_from, reading, counted, held, span, next_at, Fills}
use Rattle.frames.specs.Splitting.{frames-end, next-cut, next-whole, bytes-part, count_from, count-all, step-empty, count-empty}
use Rattle.frames.specs.declared.count.Counts.{Counts}

abbrev pub zeros : Counts
zeros = record { nodes = 0; expressions = 0; requests = 0 }

abbrev counts : ℕ → ℕ → ℕ → Counts
counts n e r = record { nodes = n; expressions = e; requests = r }

pub at_zero : (c : Counts) → c.nodes ≡ 0 → c.expressions ≡ 0 → c.requests ≡ 0 → c ≡ zeros
at_zero c n e r = let z : counts c.nodes c.expressions c.requests ≡ zeros = rw (n, e, r) refl in z

-- ---- counting

pub record Left (s : List ℕ) (c : Counts) (at : ℕ) : Type 0 where
  pub inside : at ≤ length s
  pub same : count_from c (frames_in (drop at s)) ≡ counted (reading s)

module _ (s : List ℕ) where
  pub left_start : Left s zeros 0
  unfolding reading counts_of
  left_start = record { inside = omega arith; same = count-all nothing (frames_in s) }

  module _ (c : Counts) (at : ℕ) (w : Left s c at) where
    pub left_end : length s ≤ at → done c ≡ counted (reading s)
    unfolding count_from
    left_end h = rw (frames-end s at h) at w.same

    pub left_cut : at < length s → next_at s at ≡ None → refused malformed none ≡ counted (reading s)
    unfolding count_from
    left_cut h e = rw (next-cut s at h e, count-empty c) at w.same

    module _ (from end : ℕ) (e : next_at s at ≡ span from end) (r : Result Counts Refused) (p : counts_answer r ≡ count_of c (take (end - from) (drop from s))) where
      count_turn : (counts_answer r then λ d. count_from d (frames_in (drop end s))) ≡ counted (reading s)
      unfolding count_from
      count_turn = rw p (rw (next-whole s at from end e).frames at w.same)

      pub left_refused : (f : Refused) → r ≡ Err f → counts_answer (Err f) ≡ counted (reading s)
      left_refused f g = rw g at count_turn

      pub left_more : (d : Counts) → r ≡ Ok d → Left s d end
      left_more d g = record { inside = (next-whole s at from end e).inside; same = rw g at count_turn }

-- ---- filling

-- one frame more: what is left, read after what is held then, is what it was
module _
    (a : Answer Input) (t : Tables) (s : Sized t) (c : Counts) (f : List ℕ) (b : Bytes f) (gs : List (List ℕ)) (e : read_from (input_in t c) (f ∷ gs) ≡ a)
    (r : Result Counts Refused) (u : Tables) (p : Takes t c f r u)
  where
    pub turn : (held u r then λ j. read_from j gs) ≡ a
    unfolding read_from
    turn =
        let z : held u r ≡ step (input_in t c) f = rw (p.answer, p.after) (take_step t s c f b) in
        rw z e

    pub turn_sized : Sized u
    turn_sized = rw p.after (sized-take t s c f)

pub record Filled (s : List ℕ) (t : Tables) (c : Counts) (at : ℕ) : Type 0 where
  pub inside : at ≤ length s
  pub sized : Sized t
  pub same : read_from (input_in t c) (frames_in (drop at s)) ≡ reading s

module _ (s : List ℕ) (t : Tables) where
  pub fill_start : Sized t → Filled s t zeros 0
  unfolding reading input_in first
  fill_start h = record { inside = omega arith; sized = h; same = refl }

  module _ (c : Counts) (at : ℕ) (w : Filled s t c at) where
    pub fill_end : length s ≤ at → Fills s (Ok c) t
    unfolding read_from
    fill_end h = record { answer = rw (frames-end s at h) at w.same; sized = w.sized }

    pub fill_cut : at < length s → next_at s at ≡ None → (q : Result Counts Refused) → counts_answer q ≡ refused malformed none → Fills s q t
    unfolding read_from
    fill_cut h e q g = record { answer = rw g (rw (next-cut s at h e, step-empty (input_in t c)) at w.same); sized = w.sized }

    module _
        (from end : ℕ) (e : next_at s at ≡ span from end) (b : Bytes s) (r : Result Counts Refused) (u : Tables)
        (p : Takes t c (take (end - from) (drop from s)) r u)
      where
        fill_turn : (held u r then λ j. read_from j (frames_in (drop end s))) ≡ reading s
        fill_turn = turn (reading s) t w.sized c _ (bytes-part s (end - from) from b) _ (rw (next-whole s at from end e).frames at w.same) r u p

        after_sized : Sized u
        after_sized = turn_sized (reading s) t w.sized c _ (bytes-part s (end - from) from b) _ (rw (next-whole s at from end e).frames at w.same) r u p

        pub fill_refused : (f : Refused) → r ≡ Err f → Fills s (Err f) u
        fill_refused f g = record { answer = rw g at fill_turn; sized = after_sized }

        pub fill_more : (d : Counts) → r ≡ Ok d → Filled s u d end
        fill_more d g = record { inside = (next-whole s at from end e).inside; sized = after_sized; same = rw g at fill_turn }

-- ---- the next frame

module _ (s : List ℕ) (at : ℕ) where
  pub next_short : length s - at < 2 → at < length s → None ≡ next_at s at
  unfolding next_at
  next_short h g =
      let z : length s < at + 2 = omega arith in
      simp (lt-leb _ _ z)

  module _ (n : ℕ) (e : n ≡ u16_at s at) (h : 2 ≤ length s - at) where
    pub next_long : length s - (at + 2) < n → None ≡ next_at s at
    unfolding next_at
    next_long g =
        let y : at + 2 ≤ length s = omega arith in
        let z : length s < at + 2 + u16_at s at = omega arith in
        simp (le-leb _ _ y, lt-leb _ _ z)

    pub next_is : n ≤ length s - (at + 2) → span (at + 2) (at + 2 + n) ≡ next_at s at
    unfolding next_at
    next_is g =
        let y : at + 2 ≤ length s = omega arith in
        let z : at + 2 + u16_at s at ≤ length s = omega arith in
        simp (le-leb _ _ y, le-leb _ _ z, e)
