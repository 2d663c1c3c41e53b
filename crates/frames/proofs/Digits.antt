-- Laws of digits and of lines, and where decoding stands at an index.
-- Assumes nothing.
use mathlib.Core.Path.{◌≡◌, refl, ap, sym, ◌∙◌}
use mathlib.Core.Bool.{Bool, true, false, cond, not, ◌&&◌, ◌||◌}
use mathlib.Core.List.{List, [], ◌∷◌}
use mathlib.Core.Logic.{◌⊎◌, inl, inr}
use Prim.Native.Nat.{ℕ, zero, suc, ◌+◌, ◌*◌, ◌-◌, ◌/◌, ◌%◌, ◌≤◌, ◌<◌}
use native.Mathlib.Omega.{arith}
use native.Mathlib.Numerals.{add-one}
use lib.ListN.{length, get_or, set, take, drop, drop_of_length-le}
use lib.Seq.{drop-cons, take_at}
use lib.Dec.{eqb, leb}
use borrow.Author.Tests.{eqb-true, leb-true, le-leb, lt-leb}
use Rattle.std.specs.Prelude.{MatchBool}
use Rattle.std.specs.List.{AllWithin, HoldsAt}
use Rattle.kinds.specs.Range.{within, within-true}
use Rattle.kinds.specs.Write.{write, write-is, write-none, write-length}
use Rattle.meaning.specs.Refusals.{done}
use Rattle.frames.specs.Lines.{longest_frame, is_digit, digit_of, all_digits, line_ok, bytes_of, line_of, line_into, Unhexes}
use Rattle.std.specs.Prelude.{Some, None}

-- ---- a digit

digit-cases : (b : ℕ) → is_digit b ≡ true → ((0x30 ≤ b) × (b ≤ 0x39)) ⊎ ((0x61 ≤ b) × (b ≤ 0x66))
unfolding is_digit
digit-cases b e = by (within 0x30 0x39 b) (within-true 0x30 0x39 b) (within-true 0x61 0x66 b) e
  where
    by :
        (s : Bool) → (s ≡ true → (0x30 ≤ b) × (b ≤ 0x39)) → (within 0x61 0x66 b ≡ true → (0x61 ≤ b) × (b ≤ 0x66))
        → (s || within 0x61 0x66 b) ≡ true → ((0x30 ≤ b) × (b ≤ 0x39)) ⊎ ((0x61 ≤ b) × (b ≤ 0x66))
    by true p q e = inl (p refl)
    by false p q e = inr (q e)

pub digit_low : (b : ℕ) → is_digit b ≡ true → b ≤ 0x39 → 0x30 ≤ b
digit_low b e h = by (digit-cases b e)
  where
    by : ((0x30 ≤ b) × (b ≤ 0x39)) ⊎ ((0x61 ≤ b) × (b ≤ 0x66)) → 0x30 ≤ b
    by (inl p) = p.0
    by (inr p) = absurd (omega arith)

pub digit-high : (b : ℕ) → is_digit b ≡ true → 0x39 < b → (0x61 ≤ b) × (b ≤ 0x66)
digit-high b e h = by (digit-cases b e)
  where
    by : ((0x30 ≤ b) × (b ≤ 0x39)) ⊎ ((0x61 ≤ b) × (b ≤ 0x66)) → (0x61 ≤ b) × (b ≤ 0x66)
    by (inl p) = absurd (omega arith)
    by (inr p) = p

pub digit-small : (b : ℕ) → is_digit b ≡ true → digit_of b < 16
unfolding digit_of
digit-small b e = by (digit-cases b e)
  where
    by : ((0x30 ≤ b) × (b ≤ 0x39)) ⊎ ((0x61 ≤ b) × (b ≤ 0x66)) → cond (leb b 0x39) (b - 0x30) (b - 0x57) < 16
    by (inl p) = simp (le-leb b 0x39 p.1) (omega arith)
    by (inr p) =
        let h : 0x39 < b = omega arith in
        simp (lt-leb b 0x39 h) (omega arith)

-- ---- digits only

digits-all : (l : List ℕ) → ((k : ℕ) → k < length l → is_digit (get_or l k 0) ≡ true) → all_digits l ≡ true
unfolding all_digits
digits-all [] h = refl
digits-all (b ∷ l) h = simp (h 0 (omega arith)) (digits-all l (λ k g. h (suc k) (omega arith)))

digits-but : (l : List ℕ) (k : ℕ) → k < length l → is_digit (get_or l k 0) ≡ false → all_digits l ≡ false
unfolding all_digits
digits-but [] k h e = absurd (omega arith)
digits-but (b ∷ l) zero h e = simp e
digits-but (b ∷ l) (suc k) h e = by (is_digit b) (digits-but l k (omega arith) e)
  where
    by : (s : Bool) → all_digits l ≡ false → (s && all_digits l) ≡ false
    by true q = q
    by false q = refl

-- what a test of each byte answers
pub digits_by :
    (l : List ℕ) (r : Bool)
    → MatchBool r (AllWithin (λ b. is_digit b ≡ true) l 0 (length l)) ((k : ℕ) × (k < length l) × HoldsAt (λ b. is_digit b ≡ false) l k)
    → r ≡ all_digits l
digits_by l true h = sym (digits-all l (λ k g. h k 0 (omega arith) g))
digits_by l false h = sym (digits-but l h.0 h.1 (h.2 0))

digits-at : (l : List ℕ) → all_digits l ≡ true → (k : ℕ) → k < length l → is_digit (get_or l k 0) ≡ true
unfolding all_digits
digits-at [] e k h = absurd (omega arith)
digits-at (b ∷ l) e zero h = by (is_digit b) e
  where
    by : (s : Bool) → (s && all_digits l) ≡ true → s ≡ true
    by true e = refl
    by false e = e
digits-at (b ∷ l) e (suc k) h = digits-at l (by (is_digit b) e) k (omega arith)
  where
    by : (s : Bool) → (s && all_digits l) ≡ true → all_digits l ≡ true
    by true e = e
    by false e = let z : ◌≡◌ {A = ℕ} 0 1 = cc in absurd (omega arith)

-- ---- a line

pub record Line (l : List ℕ) : Type 0 where
  pub short : length l ≤ 2 * longest_frame
  pub even : length l % 2 ≡ 0
  pub digits : (k : ℕ) → k < length l → is_digit (get_or l k 0) ≡ true

pub line : (l : List ℕ) → line_ok l ≡ true → Line l
unfolding line_ok
line l e = by (eqb (length l) 0) (leb (length l) (2 * longest_frame)) (leb-true _ _) (eqb (length l % 2) 0) (eqb-true _ _) e
  where
    by :
        (a b : Bool) → (b ≡ true → length l ≤ 2 * longest_frame) → (c : Bool) → (c ≡ true → length l % 2 ≡ 0)
        → (not a && (b && (c && all_digits l))) ≡ true → Line l
    by false true p true q e = record { short = p refl; even = q refl; digits = digits-at l e }
    by true b p c q e = let z : ◌≡◌ {A = ℕ} 0 1 = cc in absurd (omega arith)
    by false false p c q e = let z : ◌≡◌ {A = ℕ} 0 1 = cc in absurd (omega arith)
    by false true p false q e = let z : ◌≡◌ {A = ℕ} 0 1 = cc in absurd (omega arith)

bytes-length : (l : List ℕ) → length (bytes_of l) ≡ length l / 2
unfolding bytes_of
bytes-length [] = refl
bytes-length (a ∷ []) = refl
bytes-length (a ∷ b ∷ l) = rw (bytes-length l) (omega arith)

-- ---- bytes from an index on

pub record Decoded (l out₀ : List ℕ) (n : ℕ) (out : List ℕ) (i : ℕ) : Type 0 where
  pub half : n ≡ length l / 2
  pub inside : i ≤ n
  pub same : write out i (bytes_of (drop (2 * i) l)) ≡ write out₀ 0 (bytes_of l)

module _ (l : List ℕ) (e : line_ok l ≡ true) where
  module _ (out₀ : List ℕ) (n : ℕ) (out : List ℕ) (i : ℕ) (w : Decoded l out₀ n out i) where
    pub decode_digit : i < n → (is_digit (get_or l (2 * i) 0) ≡ true) × (is_digit (get_or l (2 * i + 1) 0) ≡ true)
    decode_digit h = ((line l e).digits (2 * i) (omega (arith, w.half)), (line l e).digits (2 * i + 1) (omega (arith, w.half)))

    pub decode_more : i < n → (v : ℕ) → v ≡ digit_of (get_or l (2 * i) 0) * 16 + digit_of (get_or l (2 * i + 1) 0) → Decoded l out₀ n (set out i v) (i + 1)
    unfolding bytes_of write
    decode_more h v q =
        let a : 2 * i < length l = omega (arith, w.half) in
        let b : suc (2 * i) < length l = omega (arith, w.half) in
        let j : suc (2 * i) ≡ 2 * i + 1 = omega arith in
        let k : suc (suc (2 * i)) ≡ 2 * suc i = omega arith in
        let d : drop (2 * i) l ≡ get_or l (2 * i) 0 ∷ get_or l (2 * i + 1) 0 ∷ drop (2 * suc i) l
        = drop-cons l (2 * i) 0 a ∙ rw (drop-cons l (suc (2 * i)) 0 b, k, j) in
        record { half = w.half; inside = omega arith; same = rw (q, add-one i) (rw d at w.same) }

    pub decode_end : n ≤ i → out ≡ write out₀ 0 (bytes_of l)
    unfolding bytes_of
    decode_end h =
        let z : drop (2 * i) l ≡ [] = drop_of_length-le l {i = 2 * i} (omega (arith, w.half, (line l e).even)) in
        sym (write-none out i) ∙ rw z at w.same

  pub unhexed : (out after : List ℕ) → length out ≡ longest_frame → after ≡ write out 0 (bytes_of l) → Unhexes l (Some (length l / 2)) out after
  unfolding line_of line_into
  unhexed out after h g =
      let n : length (bytes_of l) ≡ length l / 2 = bytes-length l in
      let z : take (length l / 2) (write out 0 (bytes_of l)) ≡ bytes_of l
      = rw (write-is out 0 (bytes_of l) (omega (arith, (line l e).short))) (rw (← n) (take_at (bytes_of l) (drop (0 + length (bytes_of l)) out) (length (bytes_of l)) refl)) in
      let j : length after ≡ longest_frame = ap length g ∙ write-length out 0 (bytes_of l) ∙ h in
      record {
        answer = simp e (ap done (rw g z));
        buffer = simp e g;
        inside = λ m q. let k : length l / 2 ≡ m = cc in omega (arith, (line l e).short);
      }

pub not-unhexed : (l out : List ℕ) → line_ok l ≡ false → Unhexes l None out out
unfolding line_of line_into
not-unhexed l out e = record { answer = simp e; buffer = simp e; inside = λ m q. let z : ◌≡◌ {A = ℕ} 0 1 = cc in absurd (omega arith) }
