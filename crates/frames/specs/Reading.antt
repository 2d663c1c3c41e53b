-- THE MEANING OF READING: a slice of frames, each behind its length (2 bytes, the high one first), read into nodes, expressions and requests.
-- Assumes nothing: these are definitions.
use Rattle.std.specs.Prelude as std
use Rattle.std.specs.Prelude.{Result, cond, List, [], ◌∷◌, ◌≡◌, ℕ, zero, suc, ◌+◌, ◌*◌, length, take, drop, leb}
use Rattle.std.proofs.Math.Option.{Option}
use Rattle.kinds.specs.BigEndian.{u16_at}
use Rattle.kinds.specs.declared.refusal.Refused.{Refused}
use Rattle.meaning.specs.Refusals.{Answer, done, refused, Refusal, ◌then◌}
use Rattle.frames.specs.Order.{Input, nothing, counts_of, step, counts_answer}
use Rattle.frames.specs.Tables.{Tables, Sized, input_in}
use Rattle.frames.specs.declared.count.Counts.{Counts}

-- The frames of a slice, by fuel. A length or a frame that is cut off stands as an empty frame, which is malformed.
unfoldable pub split : ℕ → List ℕ → List (List ℕ)
split zero s = []
split (suc k) [] = []
split (suc k) (a ∷ []) = [] ∷ []
split (suc k) (a ∷ b ∷ s) =
    cond (leb (a * 256 + b) (length s)) (take (a * 256 + b) s ∷ split k (drop (a * 256 + b) s)) ([] ∷ [])

unfoldable pub frames_in : List ℕ → List (List ℕ)
frames_in s = split (length s) s

-- frames after i
unfoldable pub read_from : Input → List (List ℕ) → Answer Input
read_from i [] = done i
read_from i (f ∷ fs) = step i f then λ j. read_from j fs

unfoldable pub reading : List ℕ → Answer Input
reading s = read_from nothing (frames_in s)

-- ---- what the code answers

abbrev pub span : ℕ → ℕ → std.Option (ℕ × ℕ)
span from end = std.Some (from, end)

-- where the frame behind the length at an index starts and ends, where it is not cut off
unfoldable pub next_at : List ℕ → ℕ → std.Option (ℕ × ℕ)
next_at s at =
    cond (leb (at + 2) (length s))
    (cond (leb (at + 2 + u16_at s at) (length s)) (span (at + 2) (at + 2 + u16_at s at)) std.None)
    std.None

-- how many of each were read
abbrev pub counted : Answer Input → Answer Counts
counted a = a then λ i. done (counts_of i)

-- what was read, where it stands in the tables
abbrev pub held : Tables → Result Counts Refused → Answer Input
held t r = counts_answer r then λ c. done (input_in t c)

-- what `fill` gives, with the tables as it leaves them
pub record Fills (s : List ℕ) (r : Result Counts Refused) (u : Tables) : Type 0 where
  pub answer : held u r ≡ reading s
  pub sized : Sized u

-- what `read` gives: the same, and on a refusal the tables as they were
pub record Reads (t : Tables) (s : List ℕ) (r : Result Counts Refused) (u : Tables) : Type 0 where
  pub answer : held u r ≡ reading s
  pub sized : Sized u
  pub kept : (k : Refusal) (b : Option ℕ) → counts_answer r ≡ refused k b → u ≡ t
