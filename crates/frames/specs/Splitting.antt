-- Laws of the frames of a slice, with no word of fuel, and of what is read and counted of them.
-- Assumes nothing.
use Rattle.std.proofs.Math.Path.{◌≡◌}
use Rattle.std.specs.Prelude.{Option, Some, None, refl, Bool, ℕ, zero, suc, ◌+◌, ◌*◌, ◌-◌, ◌≤◌, ◌<◌, take, drop, leb, ltb}
use Rattle.std.proofs.Common.{ap, sym, ◌∙◌, length-take, drop_of_length-le, drop-cons, drop-drop, get_or-take, get_or-drop, le-leb, leb-true, leb-false, ltb-true, ltb-false}
use Rattle.std.proofs.Math.Bool.{true, false, cond}
use mathlib.Core.List.{List, [], ◌∷◌}
use Rattle.std.proofs.Math.Option.{none}
use native.Mathlib.Omega.{arith}
use Rattle.std.proofs.Math.ListN.{length, get_or, length-drop, get_or-eq_default}
use Rattle.std.proofs.lemmas.Bool.{lt-leb}
use Rattle.kinds.specs.BigEndian.{u16_at}
use Rattle.meaning.specs.Refusals.{Answer, done, refused, malformed, ◌then◌}
use Rattle.frames.specs.Frames.{frame_of}
use Rattle.frames.specs.Order.{Input, counts_of, at_fault, count_of, step}
use Rattle.frames.specs.Taking.{Bytes, count-step}
use Rattle.frames.specs.Reading.{split, frames_in, read_from, counted, span, next_at}
use Rattle.frames.specs.declared.count.Counts.{Counts}

-- a span's start and end
from_of : Option (ℕ × ℕ) → ℕ
from_of None = 0
from_of (Some p) = p.0

end_of : Option (ℕ × ℕ) → ℕ
end_of None = 0
end_of (Some p) = p.1

-- ---- fuel

split-same : (j k : ℕ) (s : List ℕ) → length s ≤ j → length s ≤ k → split j s ≡ split k s
unfolding split
split-same zero zero [] p q = refl
split-same zero (suc k) [] p q = refl
split-same (suc j) zero [] p q = refl
split-same (suc j) (suc k) [] p q = refl
split-same zero k (a ∷ s) p q = absurd (omega arith)
split-same (suc j) zero (a ∷ s) p q = absurd (omega arith)
split-same (suc j) (suc k) (a ∷ []) p q = refl
split-same (suc j) (suc k) (a ∷ b ∷ s) p q =
    rw (split-same j k (drop (a * 256 + b) s) (simp length-drop (omega arith)) (simp length-drop (omega arith)))

pub frames-none : frames_in [] ≡ []
unfolding frames_in split
frames-none = refl

pub frames-short : (a : ℕ) → frames_in (a ∷ []) ≡ [] ∷ []
unfolding frames_in split
frames-short a = refl

pub frames-more :
    (a b : ℕ) (s : List ℕ)
    → frames_in (a ∷ b ∷ s) ≡ cond (leb (a * 256 + b) (length s)) (take (a * 256 + b) s ∷ frames_in (drop (a * 256 + b) s)) ([] ∷ [])
unfolding frames_in split
frames-more a b s =
    rw (split-same (suc (length s)) (length (drop (a * 256 + b) s)) (drop (a * 256 + b) s) (simp length-drop (omega arith)) (omega arith))

-- ---- the frames from an index on

module _ (s : List ℕ) (at : ℕ) where
  pub frames-end : length s ≤ at → frames_in (drop at s) ≡ []
  frames-end h = rw (drop_of_length-le s h) frames-none

  cut_short : at < length s → length s < at + 2 → frames_in (drop at s) ≡ [] ∷ []
  cut_short h g =
      let d : drop (suc at) s ≡ [] = drop_of_length-le s {i = suc at} (omega arith) in
      let z : drop at s ≡ get_or s at 0 ∷ [] = drop-cons s at 0 h ∙ rw d in
      rw z (frames-short (get_or s at 0))

  module _ (h : at + 2 ≤ length s) where
    two-more : drop at s ≡ get_or s at 0 ∷ get_or s (at + 1) 0 ∷ drop (at + 2) s
    two-more =
        let e₁ : at + 1 ≡ suc at = omega arith in
        let e₂ : at + 2 ≡ suc (suc at) = omega arith in
        rw (e₁, e₂) (drop-cons s at 0 (omega arith) ∙ rw (drop-cons s (suc at) 0 (omega arith)))

    cut-long : length s < at + 2 + u16_at s at → frames_in (drop at s) ≡ [] ∷ []
    unfolding u16_at
    cut-long g =
        let z : length (drop (at + 2) s) < get_or s at 0 * 256 + get_or s (at + 1) 0 = simp length-drop (omega arith) in
        rw two-more (frames-more (get_or s at 0) (get_or s (at + 1) 0) (drop (at + 2) s) ∙ simp (lt-leb _ _ z))

    whole : at + 2 + u16_at s at ≤ length s → frames_in (drop at s) ≡ take (u16_at s at) (drop (at + 2) s) ∷ frames_in (drop (at + 2 + u16_at s at) s)
    unfolding u16_at
    whole g =
        let z : get_or s at 0 * 256 + get_or s (at + 1) 0 ≤ length (drop (at + 2) s) = simp length-drop (omega arith) in
        rw two-more (frames-more (get_or s at 0) (get_or s (at + 1) 0) (drop (at + 2) s) ∙ simp (le-leb _ _ z, drop-drop))

  -- what `next_frame` answers
  pub next-cut : at < length s → next_at s at ≡ None → frames_in (drop at s) ≡ [] ∷ []
  unfolding next_at
  next-cut h e = by (leb (at + 2) (length s)) (leb-true _ _) (leb-false _ _) (leb (at + 2 + u16_at s at) (length s)) (leb-false _ _) e
    where
      by :
          (a : Bool) → (a ≡ true → at + 2 ≤ length s) → (a ≡ false → length s < at + 2) → (b : Bool) → (b ≡ false → length s < at + 2 + u16_at s at)
          → cond a (cond b (span (at + 2) (at + 2 + u16_at s at)) None) None ≡ None → frames_in (drop at s) ≡ [] ∷ []
      by true p q true r e = let z : ◌≡◌ {A = ℕ} 0 1 = cc in absurd (omega arith)
      by true p q false r e = cut-long (p refl) (r refl)
      by false p q b r e = cut_short h (q refl)

  pub record Following (from end : ℕ) : Type 0 where
    pub after : at < from
    pub order : from ≤ end
    pub inside : end ≤ length s
    pub frames : frames_in (drop at s) ≡ take (end - from) (drop from s) ∷ frames_in (drop end s)

  pub next-whole : (from end : ℕ) → next_at s at ≡ span from end → Following from end
  unfolding next_at from_of end_of
  next-whole from end e = by (leb (at + 2) (length s)) (leb-true _ _) (leb (at + 2 + u16_at s at) (length s)) (leb-true _ _) e
    where
      found : (f d : ℕ) → f ≡ at + 2 → d ≡ at + 2 + u16_at s at → at + 2 ≤ length s → at + 2 + u16_at s at ≤ length s → Following f d
      found f d p q g h =
          let n : d - f ≡ u16_at s at = omega arith in
          record { after = omega arith; order = omega arith; inside = omega arith; frames = rw (n, p, q) (whole g h) }

      by :
          (a : Bool) → (a ≡ true → at + 2 ≤ length s) → (b : Bool) → (b ≡ true → at + 2 + u16_at s at ≤ length s)
          → cond a (cond b (span (at + 2) (at + 2 + u16_at s at)) None) None ≡ span from end → Following from end
      by true p true r e = found from end (sym (ap from_of e)) (sym (ap end_of e)) (p refl) (r refl)
      by true p false r e = let z : ◌≡◌ {A = ℕ} 0 1 = cc in absurd (omega arith)
      by false p b r e = let z : ◌≡◌ {A = ℕ} 0 1 = cc in absurd (omega arith)

-- a part of bytes is one of bytes
pub bytes-part : (s : List ℕ) (n m : ℕ) → Bytes s → Bytes (take n (drop m s))
unfolding Bytes
bytes-part s n m h i = by (ltb i n) (ltb-true i n) (ltb-false i n)
  where
    by : (b : Bool) → (b ≡ true → i < n) → (b ≡ false → n ≤ i) → get_or (take n (drop m s)) i 0 < 256
    by true p q = rw (get_or-take n (drop m s) i 0 (p refl), get_or-drop m s i 0) (h (m + i))
    by false p q = rw (past (take n (drop m s)) (short n (drop m s)) (q refl)) (omega arith)
      where
        past : (l : List ℕ) → length l ≤ n → n ≤ i → get_or l i 0 ≡ 0
        past l a b = get_or-eq_default l 0 {n = i} (omega arith)

        short : (k : ℕ) (l : List ℕ) → length (take k l) ≤ k
        short k l = simp length-take (omega arith)

-- ---- counting

-- frames after c
unfoldable pub count_from : Counts → List (List ℕ) → Answer Counts
count_from c [] = done c
count_from c (f ∷ fs) = count_of c f then λ d. count_from d fs

pub count-all : (i : Input) (fs : List (List ℕ)) → count_from (counts_of i) fs ≡ counted (read_from i fs)
unfolding count_from read_from
count-all i [] = refl
count-all i (f ∷ fs) = rw (count-step i f) (by (λ j. count-all j fs) (step i f))
  where
    by :
        ((j : Input) → count_from (counts_of j) fs ≡ counted (read_from j fs))
        → (a : Answer Input) → ((a then λ j. done (counts_of j)) then λ d. count_from d fs) ≡ counted (a then λ j. read_from j fs)
    by h (done j) = h j
    by h (refused r n) = refl

-- an empty frame blames nothing
pub step-empty : (i : Input) → step i [] ≡ refused malformed none
unfolding step frame_of at_fault
step-empty i = refl

pub count-empty : (c : Counts) → count_of c [] ≡ refused malformed none
unfolding count_of frame_of at_fault
count-empty c = refl
