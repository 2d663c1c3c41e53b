-- Laws of the lines of a text: examples, the lines from an index on, and each of 0, 1 and 9 exactly when.
-- Assumes nothing.
use Rattle.std.specs.Prelude.{◌≡◌, Bool, true, false, cond, List, [], ◌∷◌, ◌++◌, ◌⊎◌, eqb}
use Rattle.std.proofs.Math.Path.{refl}
use Rattle.std.proofs.Common.{ap, ◌∙◌, drop_of_length-le, drop-drop}
use Prim.Native.Nat.{ℕ, suc, ◌+◌, ◌-◌, ◌≤◌, ◌<◌}
use native.Mathlib.Omega.{arith}
use Rattle.std.proofs.Math.ListN.{length, get_or, take, drop, length-drop}
use Rattle.std.proofs.Math.Seq.{drop-cons}
use Rattle.meaning.specs.Refusals.{done, refused, malformed, full, answer_no}
use Rattle.meaning.specs.Trees.{Each}
use Rattle.frames.specs.Order.{nothing}
use Rattle.frames.specs.Reading.{read_from}
use Rattle.frames.specs.Faults.{Wrong, Past, AllFine, First, input_from}
use Rattle.frames.specs.Verdicts.{blamed}
use Rattle.frames.specs.Exactly.{wrong-of, past_of, fine_of, row_1_of, row_9_of, row_0_of, no-other-of}
use Rattle.frames.specs.Text.{line_feed, on_first, lines_of, line_frame, text_frames, reading_text, first_end, end_at}

-- ---- examples: no line, an empty line, one line with and without its line feed, an empty line between two

pub line-examples :
    (lines_of [] ≡ []) × (lines_of (0x0a ∷ []) ≡ [] ∷ [])
    × (lines_of (0x30 ∷ 0x31 ∷ 0x0a ∷ []) ≡ (0x30 ∷ 0x31 ∷ []) ∷ []) × (lines_of (0x30 ∷ 0x31 ∷ []) ≡ (0x30 ∷ 0x31 ∷ []) ∷ [])
    × (lines_of (0x30 ∷ 0x0a ∷ 0x0a ∷ 0x31 ∷ []) ≡ (0x30 ∷ []) ∷ [] ∷ (0x31 ∷ []) ∷ [])
unfolding lines_of on_first
line-examples = (refl, refl, refl, refl, refl)

-- ---- the lines from an index on

lines_more : (b : ℕ) (t : List ℕ) → lines_of (b ∷ t) ≡ take (first_end (b ∷ t)) (b ∷ t) ∷ lines_of (drop (suc (first_end (b ∷ t))) (b ∷ t))
unfolding lines_of first_end on_first
lines_more b [] = by (eqb b line_feed)
  where
    by : (x : Bool) → cond x ([] ∷ []) ((b ∷ []) ∷ []) ≡ take (cond x 0 1) (b ∷ []) ∷ lines_of (drop (suc (cond x 0 1)) (b ∷ []))
    by true = refl
    by false = refl
lines_more b (d ∷ t) = by (lines_more d t) (eqb b line_feed)
  where
    by :
        lines_of (d ∷ t) ≡ take (first_end (d ∷ t)) (d ∷ t) ∷ lines_of (drop (suc (first_end (d ∷ t))) (d ∷ t)) → (x : Bool)
        → cond x ([] ∷ lines_of (d ∷ t)) (on_first b (lines_of (d ∷ t)))
        ≡ take (cond x 0 (suc (first_end (d ∷ t)))) (b ∷ d ∷ t) ∷ lines_of (drop (suc (cond x 0 (suc (first_end (d ∷ t))))) (b ∷ d ∷ t))
    by e true = refl
    by e false = ap (on_first b) e

first-inside : (t : List ℕ) → first_end t ≤ length t
unfolding first_end
first-inside [] = omega arith
first-inside (b ∷ t) = by (first-inside t) (eqb b line_feed)
  where
    by : first_end t ≤ length t → (x : Bool) → cond x 0 (suc (first_end t)) ≤ suc (length t)
    by h true = omega arith
    by h false = omega arith

module _ (t : List ℕ) (at : ℕ) (h : at < length t) where
  pub end-inside : end_at t at ≤ length t
  unfolding end_at
  end-inside = omega (arith, first-inside (drop at t), short)
    where
      short : length (drop at t) ≡ length t - at
      short = simp length-drop

  pub end_after : at ≤ end_at t at
  unfolding end_at
  end_after = omega arith

  pub lines_at : lines_of (drop at t) ≡ take (end_at t at - at) (drop at t) ∷ lines_of (drop (end_at t at + 1) t)
  unfolding end_at
  lines_at =
      let d : drop at t ≡ get_or t at 0 ∷ drop (suc at) t = drop-cons t at 0 h in
      let n : at + first_end (drop at t) - at ≡ first_end (drop at t) = omega arith in
      let m : at + first_end (drop at t) + 1 ≡ at + suc (first_end (drop at t)) = omega arith in
      let e : lines_of (drop at t) ≡ take (first_end (drop at t)) (drop at t) ∷ lines_of (drop (suc (first_end (drop at t))) (drop at t))
      = rw d (lines_more (get_or t at 0) (drop (suc at) t)) in
      e ∙ rw (n, m, drop-drop)

  pub frames-at : text_frames (drop at t) ≡ line_frame (take (end_at t at - at) (drop at t)) ∷ text_frames (drop (end_at t at + 1) t)
  unfolding text_frames
  frames-at = rw lines_at

pub text-end : (t : List ℕ) (at : ℕ) → length t ≤ at → text_frames (drop at t) ≡ []
unfolding text_frames lines_of
text-end t at h = rw (drop_of_length-le t h)

-- ---- a line, with its line feed after it and without

-- no byte of it is a line feed
abbrev pub Plain : List ℕ → Type 0
Plain q = Each (λ b. eqb b line_feed ≡ false) q

lines-closed : (q s : List ℕ) → Plain q → lines_of (q ++ (line_feed ∷ s)) ≡ q ∷ lines_of s
unfolding lines_of on_first
lines-closed [] s h = refl
lines-closed (b ∷ q) s h = rw (h.0, lines-closed q s h.1)

lines_open : (b : ℕ) (q : List ℕ) → Plain (b ∷ q) → lines_of (b ∷ q) ≡ (b ∷ q) ∷ []
unfolding lines_of on_first
lines_open b [] h = rw h.0
lines_open b (d ∷ q) h = rw h.0 (ap (on_first b) (lines_open d q h.1))

pub frames-closed : (q s : List ℕ) → Plain q → text_frames (q ++ (line_feed ∷ s)) ≡ line_frame q ∷ text_frames s
unfolding text_frames
frames-closed q s h = rw (lines-closed q s h)

pub frames_open : (q : List ℕ) → Plain q → 0 < length q → text_frames q ≡ line_frame q ∷ []
unfolding text_frames
frames_open [] h g = absurd (omega arith)
frames_open (b ∷ q) h g = rw (lines_open b q h)

-- ---- exactly when

module _ (t : List ℕ) where
  pub text_as : reading_text t ≡ read_from nothing (text_frames t)
  unfolding reading_text
  text_as = refl

  -- ROW 1, and who is to blame
  pub text-wrong : (w : First Wrong (text_frames t)) → reading_text t ≡ refused malformed (blamed w.before w.frame)
  text-wrong = wrong-of (text_frames t) (reading_text t) text_as

  -- ROW 9
  pub text-past : (w : First Past (text_frames t)) → reading_text t ≡ refused full (blamed w.before w.frame)
  text-past = past_of (text_frames t) (reading_text t) text_as

  pub text-fine : AllFine [] (text_frames t) → reading_text t ≡ done (input_from (text_frames t))
  text-fine = fine_of (text_frames t) (reading_text t) text_as

  pub text_1 : (answer_no (reading_text t) ≡ 1 → First Wrong (text_frames t)) × (First Wrong (text_frames t) → answer_no (reading_text t) ≡ 1)
  text_1 = row_1_of (text_frames t) (reading_text t) text_as

  pub text_9 : (answer_no (reading_text t) ≡ 9 → First Past (text_frames t)) × (First Past (text_frames t) → answer_no (reading_text t) ≡ 9)
  text_9 = row_9_of (text_frames t) (reading_text t) text_as

  pub text_0 : (answer_no (reading_text t) ≡ 0 → AllFine [] (text_frames t)) × (AllFine [] (text_frames t) → answer_no (reading_text t) ≡ 0)
  text_0 = row_0_of (text_frames t) (reading_text t) text_as

  pub text-no-other : (answer_no (reading_text t) ≡ 0) ⊎ ((answer_no (reading_text t) ≡ 1) ⊎ (answer_no (reading_text t) ≡ 9))
  text-no-other = no-other-of (text_frames t) (reading_text t) text_as
