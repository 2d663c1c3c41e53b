-- READING REFUSES EXACTLY WHEN document 01 says so: rows 1 and 9 of its table, the frame to blame, and what is read otherwise.
-- Over any list of frames, and then over those of a slice. Assumes nothing.
use Rattle.std.specs.Prelude.{◌≡◌, ◌⊎◌, ℕ}
use Rattle.std.proofs.Math.Path.{refl}
use Rattle.std.proofs.Common.{◌∙◌, inl, inr, arith}
use mathlib.Core.List.{List, [], ◌∷◌, ◌++◌, append-nil}
use Rattle.meaning.specs.Refusals.{Answer, done, refused, malformed, full, answer_no}
use Rattle.frames.specs.Order.{Input, nothing}
use Rattle.frames.specs.Reading.{frames_in, read_from, reading}
use Rattle.frames.specs.Faults.{Wrong, Past, AllFine, First, of_type, input_from}
use Rattle.frames.specs.Verdicts.{blamed, step_wrong, step_past, read-fine, Ends, at_wrong, at_past, nowhere, ends}

-- ---- any frames, and what reading them answers

module _ (fs : List (List ℕ)) (a : Answer Input) (e : a ≡ read_from nothing fs) where
  starts : a ≡ read_from (input_from []) fs
  unfolding input_from of_type
  starts = e

  ends_at : Ends [] fs a
  ends_at = rw starts (ends [] fs)

  to-fault : {P : List (List ℕ) → List ℕ → Type 0} (w : First P fs) → a ≡ read_from (input_from w.before) (w.frame ∷ w.rest)
  to-fault w = starts ∙ rw w.split (read-fine [] w.before (w.frame ∷ w.rest) w.fine)

  -- ROW 1: the first frame that is not fine is malformed or out of order, and a node frame is to blame by its number
  pub wrong-of : (w : First Wrong fs) → a ≡ refused malformed (blamed w.before w.frame)
  unfolding read_from
  wrong-of w = to-fault w ∙ rw (step_wrong w.before w.frame w.fault)

  -- ROW 9: the first frame that is not fine is well formed and in order, and past a limit
  pub past_of : (w : First Past fs) → a ≡ refused full (blamed w.before w.frame)
  unfolding read_from
  past_of w = to-fault w ∙ rw (step_past w.before w.frame w.fault)

  -- otherwise all is read, each list with its frames in order
  pub fine_of : AllFine [] fs → a ≡ done (input_from fs)
  unfolding read_from
  fine_of h =
      let q : read_from (input_from []) (fs ++ []) ≡ read_from (input_from fs) [] = read-fine [] fs [] h in
      starts ∙ rw append-nil at q

  -- ---- exactly when

  pub row_1_of : (answer_no a ≡ 1 → First Wrong fs) × (First Wrong fs → answer_no a ≡ 1)
  row_1_of = (λ n. by ends_at n, λ w. rw (wrong-of w))
    where
      by : Ends [] fs a → answer_no a ≡ 1 → First Wrong fs
      by (at_wrong m f r p h w q) n = record { before = m; frame = f; rest = r; split = p; fine = h; fault = w }
      by (at_past m f r p h w q) n = let z : ◌≡◌ {A = ℕ} 9 1 = rw q at n in absurd (omega arith)
      by (nowhere h q) n = let z : ◌≡◌ {A = ℕ} 0 1 = rw q at n in absurd (omega arith)

  pub row_9_of : (answer_no a ≡ 9 → First Past fs) × (First Past fs → answer_no a ≡ 9)
  row_9_of = (λ n. by ends_at n, λ w. rw (past_of w))
    where
      by : Ends [] fs a → answer_no a ≡ 9 → First Past fs
      by (at_wrong m f r p h w q) n = let z : ◌≡◌ {A = ℕ} 1 9 = rw q at n in absurd (omega arith)
      by (at_past m f r p h w q) n = record { before = m; frame = f; rest = r; split = p; fine = h; fault = w }
      by (nowhere h q) n = let z : ◌≡◌ {A = ℕ} 0 9 = rw q at n in absurd (omega arith)

  pub row_0_of : (answer_no a ≡ 0 → AllFine [] fs) × (AllFine [] fs → answer_no a ≡ 0)
  row_0_of = (λ n. by ends_at n, λ h. rw (fine_of h))
    where
      by : Ends [] fs a → answer_no a ≡ 0 → AllFine [] fs
      by (at_wrong m f r p h w q) n = let z : ◌≡◌ {A = ℕ} 1 0 = rw q at n in absurd (omega arith)
      by (at_past m f r p h w q) n = let z : ◌≡◌ {A = ℕ} 9 0 = rw q at n in absurd (omega arith)
      by (nowhere h q) n = h

  -- and there is no other answer
  pub no-other-of : (answer_no a ≡ 0) ⊎ ((answer_no a ≡ 1) ⊎ (answer_no a ≡ 9))
  no-other-of = by ends_at
    where
      by : Ends [] fs a → (answer_no a ≡ 0) ⊎ ((answer_no a ≡ 1) ⊎ (answer_no a ≡ 9))
      by (at_wrong m f r p h w q) = inr (inl (rw q))
      by (at_past m f r p h w q) = inr (inr (rw q))
      by (nowhere h q) = inl (rw q)

-- ---- the frames of a slice

module _ (s : List ℕ) where
  pub read_as : reading s ≡ read_from nothing (frames_in s)
  unfolding reading
  read_as = refl

  pub wrong-refused : (w : First Wrong (frames_in s)) → reading s ≡ refused malformed (blamed w.before w.frame)
  wrong-refused = wrong-of (frames_in s) (reading s) read_as

  pub past-refused : (w : First Past (frames_in s)) → reading s ≡ refused full (blamed w.before w.frame)
  past-refused = past_of (frames_in s) (reading s) read_as

  pub fine-read : AllFine [] (frames_in s) → reading s ≡ done (input_from (frames_in s))
  fine-read = fine_of (frames_in s) (reading s) read_as

  pub row_1 : (answer_no (reading s) ≡ 1 → First Wrong (frames_in s)) × (First Wrong (frames_in s) → answer_no (reading s) ≡ 1)
  row_1 = row_1_of (frames_in s) (reading s) read_as

  pub row_9 : (answer_no (reading s) ≡ 9 → First Past (frames_in s)) × (First Past (frames_in s) → answer_no (reading s) ≡ 9)
  row_9 = row_9_of (frames_in s) (reading s) read_as

  pub row_0 : (answer_no (reading s) ≡ 0 → AllFine [] (frames_in s)) × (AllFine [] (frames_in s) → answer_no (reading s) ≡ 0)
  row_0 = row_0_of (frames_in s) (reading s) read_as

  pub no_other : (answer_no (reading s) ≡ 0) ⊎ ((answer_no (reading s) ≡ 1) ⊎ (answer_no (reading s) ≡ 9))
  no_other = no-other-of (frames_in s) (reading s) read_as
