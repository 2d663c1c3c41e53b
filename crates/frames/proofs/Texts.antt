-- One line taken, and where reading a text stands at an index: what is left, after what the tables hold, is the whole.
-- Assumes nothing.
use mathlib.Core.Path.{◌≡◌, refl, ap, sym, ◌∙◌}
use mathlib.Core.Bool.{Bool, true, false, cond}
use mathlib.Core.List.{List, [], ◌∷◌}
use mathlib.Core.Option.{none}
use Prim.Native.Nat.{ℕ, zero, suc, ◌+◌, ◌-◌, ◌≤◌, ◌<◌}
use native.Mathlib.Omega.{arith}
use lib.ListN.{length, get_or, take, drop}
use borrow.Author.Tests.{eq-eqb, ne_eqb}
use Rattle.std.specs.Prelude as std
use Rattle.std.specs.List.{AllWithin, HoldsAt}
use Rattle.std.specs.Prelude.{MatchOption, unwrap_or, Result, Ok, Err, Some, None}
use Rattle.kinds.specs.declared.refusal.Refused.{Refused}
use Rattle.meaning.specs.Refusals.{done, refused, malformed, ◌then◌}
use Rattle.frames.specs.Frames.{frame_of}
use Rattle.frames.specs.Order.{counts_answer}
use Rattle.frames.specs.Lines.{is_digit, line_ok, bytes_of, line_of, Unhexes}
use Rattle.frames.specs.Tables.{Tables, Sized, take_into, Takes, input_in, first}
use Rattle.frames.specs.Taking.{Bytes}
use Rattle.frames.specs.Reading.{read_from, held}
use Rattle.frames.specs.Splitting.{count-empty}
use Rattle.frames.specs.Text.{line_feed, line_frame, text_frames, reading_text, first_end, end_at, FillsText}
use Rattle.frames.specs.TextLaws.{end-inside, end_after, frames-at, text-end}
use Rattle.frames.proofs.Digits.{digit-small, line}
use Rattle.frames.proofs.Loops.{zeros, turn, turn_sized}
use Rattle.frames.specs.declared.count.Counts.{Counts}

-- ---- the end of a line

first-is : (l : List ℕ) (i : ℕ) → i < length l → get_or l i 0 ≡ line_feed → ((k : ℕ) → k < i → get_or l k 0 ≡ line_feed → ⊥) → i ≡ first_end l
unfolding first_end
first-is [] i h e f = absurd (omega arith)
first-is (b ∷ l) zero h e f = simp (eq-eqb _ _ e)
first-is (b ∷ l) (suc i) h e f = simp (ne_eqb _ _ (f 0 (omega arith))) (ap suc (first-is l i (omega arith) e (λ k g. f (suc k) (omega arith))))

first-none : (l : List ℕ) → ((k : ℕ) → k < length l → get_or l k 0 ≡ line_feed → ⊥) → length l ≡ first_end l
unfolding first_end
first-none [] f = refl
first-none (b ∷ l) f = simp (ne_eqb _ _ (f 0 (omega arith))) (ap suc (first-none l (λ k g. f (suc k) (omega arith))))

-- what looking for a line feed answers
pub first_by :
    (l : List ℕ) (r : std.Option ℕ)
    → MatchOption r
    (AllWithin (λ b. b ≡ line_feed → ⊥) l 0 (length l))
    (λ i. (i < length l) × HoldsAt (λ b. b ≡ line_feed) l i × AllWithin (λ b. b ≡ line_feed → ⊥) l 0 i)
    → unwrap_or r (length l) ≡ first_end l
first_by l None h = first-none l (λ k g. h k 0 (omega arith) g)
first_by l (Some i) h = first-is l i h.0 (h.1 0) (λ k g. h.2 k 0 (omega arith) g)

pub record Ended (t : List ℕ) (at end : ℕ) : Type 0 where
  pub order : at ≤ end
  pub inside : end ≤ length t

pub ended : {t : List ℕ} {at end : ℕ} → end ≡ end_at t at → at < length t → Ended t at end
ended {t} {at} {end} e h = rw e (record { order = end_after t at h; inside = end-inside t at h })

-- ---- one line

module _ (l : List ℕ) (r : std.Option ℕ) (out after : List ℕ) (w : Unhexes l r out after) where
  no-frame : r ≡ None → line_frame l ≡ []
  unfolding line_of line_frame
  no-frame q = by (line_ok l) (rw q at w.answer)
    where
      by : (b : Bool) → refused malformed none ≡ cond b (done (bytes_of l)) (refused malformed none) → cond b (bytes_of l) [] ≡ []
      by true e = let z : ◌≡◌ {A = ℕ} 0 1 = cc in absurd (omega arith)
      by false e = refl

  its-frame : (n : ℕ) → r ≡ Some n → take n after ≡ line_frame l
  unfolding line_of line_frame
  its-frame n q = by (line_ok l) (rw q at w.answer)
    where
      by : (b : Bool) → done (take n after) ≡ cond b (done (bytes_of l)) (refused malformed none) → take n after ≡ cond b (bytes_of l) []
      by true e = cc
      by false e = let z : ◌≡◌ {A = ℕ} 0 1 = cc in absurd (omega arith)

  module _ (t : Tables) (c : Counts) where
    pub line_refused : r ≡ None → (q : Result Counts Refused) → counts_answer q ≡ refused malformed none → Takes t c (line_frame l) q t
    unfolding take_into frame_of
    line_refused e q h = rw (no-frame e) (record { answer = h ∙ sym (count-empty c); after = refl })

    pub line_taken : (n : ℕ) → r ≡ Some n → (q : Result Counts Refused) (u : Tables) → Takes t c (take n after) q u → Takes t c (line_frame l) q u
    line_taken n e q u h = rw (its-frame n e) at h

-- the frame of a line is of bytes
bytes_small : (l : List ℕ) → ((k : ℕ) → k < length l → is_digit (get_or l k 0) ≡ true) → Bytes (bytes_of l)
unfolding Bytes bytes_of
bytes_small [] h i = omega arith
bytes_small (a ∷ []) h i = omega arith
bytes_small (a ∷ b ∷ l) h zero = omega (arith, digit-small a (h 0 (omega arith)), digit-small b (h 1 (omega arith)))
bytes_small (a ∷ b ∷ l) h (suc i) = bytes_small l (λ k g. h (suc (suc k)) (omega arith)) i

bytes-none : Bytes []
unfolding Bytes
bytes-none i = omega arith

pub bytes-line : (l : List ℕ) → Bytes (line_frame l)
unfolding line_frame
bytes-line l = by (line_ok l) (λ e. bytes_small l (line l e).digits)
  where
    by : (b : Bool) → (b ≡ true → Bytes (bytes_of l)) → Bytes (cond b (bytes_of l) [])
    by true h = h refl
    by false h = bytes-none

-- ---- all lines

pub record FilledText (s : List ℕ) (t : Tables) (c : Counts) (at : ℕ) : Type 0 where
  pub sized : Sized t
  pub same : read_from (input_in t c) (text_frames (drop at s)) ≡ reading_text s

module _ (s : List ℕ) (t : Tables) where
  pub text_start : Sized t → FilledText s t zeros 0
  unfolding reading_text input_in first
  text_start h = record { sized = h; same = refl }

  module _ (c : Counts) (at : ℕ) (w : FilledText s t c at) where
    pub text_done : length s ≤ at → FillsText s (Ok c) t
    unfolding read_from
    text_done h = record { answer = rw (text-end s at h) at w.same; sized = w.sized }

    module _ (h : at < length s) (end : ℕ) (e : end ≡ end_at s at) (r : Result Counts Refused) (u : Tables) (p : Takes t c (line_frame (take (end - at) (drop at s))) r u) where
      left : text_frames (drop at s) ≡ line_frame (take (end - at) (drop at s)) ∷ text_frames (drop (end + 1) s)
      left = rw e (frames-at s at h)

      text_turn : (held u r then λ j. read_from j (text_frames (drop (end + 1) s))) ≡ reading_text s
      text_turn = turn (reading_text s) t w.sized c _ (bytes-line _) _ (rw left at w.same) r u p

      after_sized : Sized u
      after_sized = turn_sized (reading_text s) t w.sized c _ (bytes-line _) _ (rw left at w.same) r u p

      pub text_refused : (f : Refused) → r ≡ Err f → FillsText s (Err f) u
      text_refused f g = record { answer = rw g at text_turn; sized = after_sized }

      pub text_more : (d : Counts) → r ≡ Ok d → FilledText s u d (end + 1)
      text_more d g = record { sized = after_sized; same = rw g at text_turn }
