-- A line of lower-case hexadecimal, as the bytes of a frame.
-- Assumes nothing: these are definitions.
use Rattle.std.specs.Prelude.{Option, Some, None, Bool, true, cond, not, ◌&&◌, ◌||◌, List, [], ◌∷◌, ◌≡◌, ℕ, ◌+◌, ◌*◌, ◌-◌, ◌%◌, ◌≤◌, length, take, eqb, leb}
use Rattle.std.proofs.Math.Option.{none}
use Rattle.kinds.specs.Range.{within}
use Rattle.kinds.specs.Write.{write}
use Rattle.meaning.specs.Refusals.{Answer, done, refused, malformed}

-- a node frame with 255 children and a literal
abbrev pub longest_frame : ℕ
longest_frame = 525

-- 0 to 9, a to f
unfoldable pub is_digit : ℕ → Bool
is_digit b = within 0x30 0x39 b || within 0x61 0x66 b

unfoldable pub digit_of : ℕ → ℕ
digit_of b = cond (leb b 0x39) (b - 0x30) (b - 0x57)

unfoldable pub all_digits : List ℕ → Bool
all_digits [] = true
all_digits (b ∷ l) = is_digit b && all_digits l

-- not empty, no more digits than the longest frame has, an even number of them, and nothing else
unfoldable pub line_ok : List ℕ → Bool
line_ok l = not (eqb (length l) 0) && (leb (length l) (2 * longest_frame) && (eqb (length l % 2) 0 && all_digits l))

-- two digits for a byte, the high one first
unfoldable pub bytes_of : List ℕ → List ℕ
bytes_of [] = []
bytes_of (a ∷ []) = []
bytes_of (a ∷ b ∷ l) = (digit_of a * 16 + digit_of b) ∷ bytes_of l

-- the frame that a line says
unfoldable pub line_of : List ℕ → Answer (List ℕ)
line_of l = cond (line_ok l) (done (bytes_of l)) (refused malformed none)

-- ---- what the code answers

-- with the buffer as it is left
abbrev pub unhex_answer : List ℕ → Option ℕ → Answer (List ℕ)
unhex_answer out None = refused malformed none
unhex_answer out (Some n) = done (take n out)

-- the buffer after a line: its bytes written over the front, and where it is malformed as it was
unfoldable pub line_into : List ℕ → List ℕ → List ℕ
line_into out l = cond (line_ok l) (write out 0 (bytes_of l)) out

pub record Unhexes (l : List ℕ) (r : Option ℕ) (out after : List ℕ) : Type 0 where
  pub answer : unhex_answer after r ≡ line_of l
  pub buffer : after ≡ line_into out l
  pub inside : (n : ℕ) → r ≡ Some n → n ≤ length after
