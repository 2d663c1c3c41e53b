-- THE MEANING OF READING A TEXT: lines of lower-case hexadecimal, one frame a line.
-- Assumes nothing: these are definitions.
use Rattle.std.specs.Prelude.{Result, cond, List, [], ◌∷◌, map, ◌≡◌, ℕ, suc, ◌+◌, drop, eqb}
use Rattle.meaning.specs.Refusals.{Answer}
use Rattle.kinds.specs.declared.refusal.Refused.{Refused}
use Rattle.frames.specs.Order.{Input, nothing}
use Rattle.frames.specs.Lines.{line_ok, bytes_of}
use Rattle.frames.specs.Tables.{Tables, Sized}
use Rattle.frames.specs.Reading.{read_from, held}
use Rattle.frames.specs.declared.count.Counts.{Counts}

abbrev pub line_feed : ℕ
line_feed = 0x0a

-- a byte more at the front of the first line
unfoldable pub on_first : ℕ → List (List ℕ) → List (List ℕ)
on_first b [] = (b ∷ []) ∷ []
on_first b (l ∷ ls) = (b ∷ l) ∷ ls

-- A line feed ends a line and begins none: an empty text has no line, and the last line may lack its line feed.
unfoldable pub lines_of : List ℕ → List (List ℕ)
lines_of [] = []
lines_of (b ∷ t) = cond (eqb b line_feed) ([] ∷ lines_of t) (on_first b (lines_of t))

-- the frame of a line; one that is not as it should be stands as an empty frame, which is malformed and blames nothing
unfoldable pub line_frame : List ℕ → List ℕ
line_frame l = cond (line_ok l) (bytes_of l) []

unfoldable pub text_frames : List ℕ → List (List ℕ)
text_frames t = map line_frame (lines_of t)

unfoldable pub reading_text : List ℕ → Answer Input
reading_text t = read_from nothing (text_frames t)

-- ---- what the code answers

-- how many bytes there are before the first line feed, or in all
unfoldable pub first_end : List ℕ → ℕ
first_end [] = 0
first_end (b ∷ t) = cond (eqb b line_feed) 0 (suc (first_end t))

-- where the line from an index on ends
unfoldable pub end_at : List ℕ → ℕ → ℕ
end_at t at = at + first_end (drop at t)

-- what `fill_text` gives, with the tables as it leaves them
pub record FillsText (t : List ℕ) (r : Result Counts Refused) (u : Tables) : Type 0 where
  pub answer : held u r ≡ reading_text t
  pub sized : Sized u
