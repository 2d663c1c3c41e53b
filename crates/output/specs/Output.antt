-- WHAT THE PROGRAM PRINTS (document 01, "Frames, and one whole run"): the first list, one step a line, and the counter; or a refusal alone.
-- Assumes nothing: these are definitions.
use Rattle.std.specs.Prelude.{ℕ, ◌/◌, ◌%◌, Bool, true, false, List, [], ◌∷◌, ◌++◌, length}
use Rattle.kinds.specs.KindBytes as kind
use Rattle.kinds.specs.BigEndian.{u16_bytes}
use Rattle.meaning.specs.Refusals.{number, Answer, done, refused}
use Rattle.meaning.specs.Trees.{Lit, lit}
use Rattle.meaning.specs.Steps.{kind_no, Cell, Ref, step_no, Step}
use Rattle.meaning.specs.Building.{Segment}
use Rattle.frames.specs.Hexed.{hex_line}
use Rattle.frames.specs.Text.{line_feed}

-- ---- numbers, the high half first

unfoldable pub u32_bytes : ℕ → List ℕ
u32_bytes x = u16_bytes (x / 0x10000) ++ u16_bytes (x % 0x10000)

unfoldable pub u64_bytes : ℕ → List ℕ
u64_bytes x = u32_bytes (x / 0x100000000) ++ u32_bytes (x % 0x100000000)

-- 01 is minus
abbrev pub sign_byte : Bool → ℕ
sign_byte true = 1
sign_byte false = 0

-- ---- references and steps

unfoldable pub lit_out : Lit → List ℕ
lit_out (lit minus n) = sign_byte minus ∷ u64_bytes n

-- kind, id, prime
unfoldable pub cell_out : ℕ → ℕ → ℕ → List ℕ
cell_out k id prime = k ∷ u16_bytes id ++ (prime ∷ [])

-- and for number a literal
unfoldable pub ref_out : Ref → List ℕ
ref_out (Ref.var (Cell.cell k i r)) = cell_out (kind_no k) i r
ref_out (Ref.number l n) = cell_out kind.number 0 0 ++ lit_out l

unfoldable pub refs_out : List Ref → List ℕ
refs_out [] = []
refs_out (r ∷ rs) = ref_out r ++ refs_out rs

-- step, destination, source count, sources
unfoldable pub step_out : Step → List ℕ
step_out s = step_no s.op ∷ ref_out s.destination ++ (length s.sources ∷ refs_out s.sources)

-- ---- lines

-- each byte as two digits, and a line feed
unfoldable pub line : List ℕ → List ℕ
line bytes = hex_line bytes ++ (line_feed ∷ [])

unfoldable pub step_line : Step → List ℕ
step_line s = line (step_out s)

unfoldable pub list_lines : List Step → List ℕ
list_lines [] = []
list_lines (s ∷ ss) = step_line s ++ list_lines ss

abbrev pub counter_mark : ℕ
counter_mark = 0xfe

abbrev pub refusal_mark : ℕ
refusal_mark = 0xff

unfoldable pub counter_line : ℕ → List ℕ
counter_line t = line (counter_mark ∷ u16_bytes t)

-- by the refusal's number
unfoldable pub refusal_line : ℕ → List ℕ
refusal_line n = line (refusal_mark ∷ n ∷ [])

-- THE OUTPUT
unfoldable pub printed : Answer Segment → List ℕ
printed (done s) = list_lines s.first ++ counter_line s.counter
printed (refused r blame) = refusal_line (number r)
