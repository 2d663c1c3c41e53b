-- Frames written as lines of hexadecimal, and that reading the text gives what reading the frames gives.
-- Assumes nothing.
use Rattle.std.specs.Prelude.{◌≡◌, refl, Bool, cond, ◌&&◌, List, [], ◌∷◌, ◌++◌, ℕ, suc, ◌+◌, ◌*◌, ◌/◌, ◌%◌, ◌≤◌, ◌<◌, eqb, leb, ltb}
use Rattle.std.proofs.Common.{ap, sym, ◌∙◌, true≢false, append_assoc, append-nil, inl, arith, div-add-mod'}
use Rattle.std.proofs.Math.Bool.{true, false}
use Rattle.std.proofs.Math.ListN.{length}
use borrow.Author.Tests.{eqb-true, eqb-false, eq-eqb, ne_eqb, le-leb, leb-true, leb-false, ltb-true, ltb-false}
use Rattle.kinds.specs.Kinds.{carries_literal}
use Rattle.kinds.specs.Range.{within, true-over}
use Rattle.meaning.specs.Refusals.{done}
use Rattle.frames.specs.Nodes.{type_byte, kind_byte, count_byte, node_size}
use Rattle.frames.specs.Faults.{Malformed, empty, unknown_type, wrong_length, expression_length, request_length, AllFine, input_from}
use Rattle.frames.specs.Exactly.{fine_of}
use Rattle.frames.specs.Order.{nothing}
use Rattle.frames.specs.Lines.{longest_frame, is_digit, digit_of, all_digits, line_ok, bytes_of}
use Rattle.frames.specs.Taking.{Bytes}
use Rattle.frames.specs.Reading.{frames_in, read_from, reading}
use Rattle.frames.specs.Text.{line_feed, lines_of, line_frame, text_frames, reading_text}
use Rattle.frames.specs.TextLaws.{Plain, frames-closed, frames_open}

-- ---- what is written

-- the digit of a value below 16
unfoldable pub hex_digit : ℕ → ℕ
hex_digit v = cond (ltb v 10) (0x30 + v) (0x57 + v)

-- two digits for a byte, the high one first
unfoldable pub hex_line : List ℕ → List ℕ
hex_line [] = []
hex_line (b ∷ f) = hex_digit (b / 16) ∷ hex_digit (b % 16) ∷ hex_line f

-- a line for each frame, and a line feed after it
unfoldable pub text_of : List (List ℕ) → List ℕ
text_of [] = []
text_of (f ∷ fs) = hex_line f ++ (line_feed ∷ text_of fs)

-- bytes, at least one, and no more than a line may have
pub record Writable (f : List ℕ) : Type 0 where
  pub bytes : Bytes f
  pub some : 0 < length f
  pub short : length f ≤ longest_frame

unfoldable pub AllWritable : List (List ℕ) → Type 0
AllWritable [] = Unit
AllWritable (f ∷ fs) = Writable f × AllWritable fs

-- ---- one line

digit-is : (v : ℕ) → v < 16 → is_digit (hex_digit v) ≡ true
unfolding is_digit hex_digit within
digit-is v h = sym (true-over (λ k. is_digit (hex_digit k)) 0 15 tt v (omega arith, omega arith))

digit-back : (v : ℕ) → v < 16 → digit_of (hex_digit v) ≡ v
unfolding digit_of hex_digit
digit-back v h = eqb-true _ _ (sym (true-over (λ k. eqb (digit_of (hex_digit k)) k) 0 15 tt v (omega arith, omega arith)))

module _ (b : ℕ) (h : b < 256) where
  high : b / 16 < 16
  high = omega arith

  low : b % 16 < 16
  low = omega arith

line-digits : (f : List ℕ) → Bytes f → all_digits (hex_line f) ≡ true
unfolding all_digits hex_line Bytes
line-digits [] h = refl
line-digits (b ∷ f) h = simp (digit-is (b / 16) (high b (h 0)), digit-is (b % 16) (low b (h 0)), line-digits f (λ i. h (suc i)))

pub line-length : (f : List ℕ) → length (hex_line f) ≡ 2 * length f
unfolding hex_line
line-length [] = refl
line-length (b ∷ f) = rw (line-length f) (omega arith)

line-bytes : (f : List ℕ) → Bytes f → bytes_of (hex_line f) ≡ f
unfolding bytes_of hex_line Bytes
line-bytes [] h = refl
line-bytes (b ∷ f) h =
    rw (digit-back (b / 16) (high b (h 0)), digit-back (b % 16) (low b (h 0)), line-bytes f (λ i. h (suc i)), div-add-mod')

module _ (f : List ℕ) (w : Writable f) where
  line_ok_lem : line_ok (hex_line f) ≡ true
  unfolding line_ok
  line_ok_lem =
      let a : length (hex_line f) ≡ 0 → ⊥ = λ e. omega (arith, line-length f, w.some) in
      let b : length (hex_line f) ≤ 2 * longest_frame = omega (arith, line-length f, w.short) in
      let d : length (hex_line f) % 2 ≡ 0 = omega (arith, line-length f) in
      simp (ne_eqb _ _ a, le-leb _ _ b, eq-eqb _ _ d, line-digits f w.bytes)

  frame_back : line_frame (hex_line f) ≡ f
  unfolding line_frame
  frame_back = simp line_ok_lem (line-bytes f w.bytes)

-- ---- lines of digits

and_both : (a b : Bool) → (a && b) ≡ true → (a ≡ true) × (b ≡ true)
and_both true true e = (refl, refl)
and_both true false e = (refl, e)
and_both false b e = (e, let z : ◌≡◌ {A = ℕ} 0 1 = cc in absurd (omega arith))

no-feed : (b : ℕ) → is_digit b ≡ true → eqb b line_feed ≡ false
unfolding is_digit within
no-feed b e = ne_eqb b line_feed (λ q. true≢false (sym e ∙ ap is_digit q))

digits-plain : (l : List ℕ) → all_digits l ≡ true → Plain l
unfolding all_digits
digits-plain [] e = tt
digits-plain (b ∷ l) e =
    let g = and_both (is_digit b) (all_digits l) e in
    (no-feed b g.0, digits-plain l g.1)

-- ---- a text

text-then : (fs : List (List ℕ)) (t : List ℕ) → AllWritable fs → text_frames (text_of fs ++ t) ≡ fs ++ text_frames t
unfolding text_of AllWritable
text-then [] t w = refl
text-then (f ∷ fs) t w =
    rw (append_assoc (hex_line f) (line_feed ∷ text_of fs) t, frames-closed (hex_line f) (text_of fs ++ t) (digits-plain (hex_line f) (line-digits f w.0.bytes)), frame_back f w.0)
    (ap (λ (l : List (List ℕ)). f ∷ l) (text-then fs t w.1))

text-last : (f : List ℕ) → Writable f → text_frames (hex_line f) ≡ f ∷ []
text-last f v =
    let n : 0 < length (hex_line f) = omega (arith, line-length f, v.some) in
    frames_open (hex_line f) (digits-plain (hex_line f) (line-digits f v.bytes)) n ∙ rw (frame_back f v)

-- THE FRAMES COME BACK, with a line feed at the end
pub text-back : (fs : List (List ℕ)) → AllWritable fs → text_frames (text_of fs) ≡ fs
unfolding text_frames lines_of
text-back fs w =
    let e : text_frames (text_of fs ++ []) ≡ fs ++ [] = text-then fs [] w in
    rw (append-nil (text_of fs), append-nil fs) at e

-- and without one
pub text-back_open : (fs : List (List ℕ)) (f : List ℕ) → AllWritable fs → Writable f → text_frames (text_of fs ++ hex_line f) ≡ fs ++ (f ∷ [])
text-back_open fs f w v = text-then fs (hex_line f) w ∙ ap (λ (l : List (List ℕ)). fs ++ l) (text-last f v)

-- THE TEXT READS AS THE FRAMES DO
pub text-reads : (fs : List (List ℕ)) → AllWritable fs → reading_text (text_of fs) ≡ read_from nothing fs
unfolding reading_text
text-reads fs w = rw (text-back fs w)

-- those of a slice too
pub text-reads-slice : (s : List ℕ) → AllWritable (frames_in s) → reading_text (text_of (frames_in s)) ≡ reading s
unfolding reading
text-reads-slice s w = text-reads (frames_in s) w

-- ---- what is not malformed can be written

size-most : (kind count : ℕ) → count < 256 → node_size kind count ≤ longest_frame
unfolding node_size
size-most kind count h = by (carries_literal kind)
  where
    by : (b : Bool) → 6 + 2 * count + cond b 9 0 ≤ 525
    by true = omega arith
    by false = omega arith

module _ (f : List ℕ) (h : Bytes f) (n : Malformed f → ⊥) where
  not-longer : longest_frame < length f → ⊥
  unfolding Bytes
  not-longer l = by (eqb (type_byte f) 1) (eqb-true _ _) (eqb-false _ _) (eqb (type_byte f) 2) (eqb-true _ _) (eqb-false _ _) (eqb (type_byte f) 3) (eqb-true _ _) (eqb-false _ _)
    where
      by :
          (a : Bool) → (a ≡ true → type_byte f ≡ 1) → (a ≡ false → type_byte f ≡ 1 → ⊥) → (b : Bool) → (b ≡ true → type_byte f ≡ 2)
          → (b ≡ false → type_byte f ≡ 2 → ⊥) → (d : Bool) → (d ≡ true → type_byte f ≡ 3) → (d ≡ false → type_byte f ≡ 3 → ⊥) → ⊥
      by true p p' b q q' d s s' = n (wrong_length (p refl) (λ e. omega (arith, size-most (kind_byte f) (count_byte f) (h 5))))
      by false p p' true q q' d s s' = n (expression_length (q refl) (λ e. omega arith))
      by false p p' false q q' true s s' = n (request_length (s refl) (λ e. omega arith))
      by false p p' false q q' false s s' = n (unknown_type (p' refl) (q' refl) (s' refl))

  pub well-writable : Writable f
  well-writable =
      record {
        bytes = h;
        some = by (ltb 0 (length f)) (ltb-true _ _) (λ e. absurd (n (empty (omega (arith, ltb-false 0 (length f) e)))));
        short = by (leb (length f) longest_frame) (leb-true _ _) (λ e. absurd (not-longer (leb-false _ _ e)));
      }
    where
      by : {P : Type 0} (b : Bool) → (b ≡ true → P) → (b ≡ false → P) → P
      by true p q = p refl
      by false p q = q refl

none-malformed :
    (fs : List (List ℕ)) → ((m : List (List ℕ)) (f : List ℕ) (r : List (List ℕ)) → fs ≡ m ++ f ∷ r → Bytes f × (Malformed f → ⊥)) → AllWritable fs
unfolding AllWritable
none-malformed [] h = tt
none-malformed (f ∷ fs) h =
    let g = h [] f fs refl in
    (well-writable f g.0 g.1, none-malformed fs (λ m x r e. h (f ∷ m) x r (ap (λ (l : List (List ℕ)). f ∷ l) e)))

-- FRAMES OF BYTES THAT ARE FINE, written as lines, are read whole
module _ (fs : List (List ℕ)) (b : (m : List (List ℕ)) (f : List ℕ) (r : List (List ℕ)) → fs ≡ m ++ f ∷ r → Bytes f) (h : AllFine [] fs) where
  pub fine-writable : AllWritable fs
  unfolding AllFine
  fine-writable = none-malformed fs (λ m f r e. (b m f r e, λ x. (h m f r e).0 (inl x)))

  pub fine-text : reading_text (text_of fs) ≡ done (input_from fs)
  fine-text = fine_of fs (reading_text (text_of fs)) (text-reads fs fine-writable) h
