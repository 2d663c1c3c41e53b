-- The definitions of `meaning` run on stored scripts, and their answers as numbers, to be compared with the original's.
-- Assumes nothing: these are definitions.
use Rattle.std.specs.Prelude.{ℕ, zero, suc, ◌+◌, ◌*◌, Bool, true, false, ◌&&◌, List, [], ◌∷◌, ◌++◌, length, eqb}
use Rattle.std.proofs.Math.Option.{Option}
use Rattle.meaning.specs.Refusals.{number, Answer, done, refused}
use Rattle.meaning.specs.Trees.{lit, Expr, Expression, Forest}
use Rattle.meaning.specs.Steps.{kind_no, Cell, Ref, step_no, Step}
use Rattle.meaning.specs.Generation.{Block, State, start, Request, Result, serve}
use Rattle.meaning.specs.Building.{Segment, segment, after_build}

abbrev pub expression : Expr → Bool → Bool → Bool → Expression
expression t keep keep2ns id_q = record { tree = t; keep = keep; keep2ns = keep2ns; id_q = id_q }

pub data Command : Type 0 where
  request : Request → Command
  build : Command

abbrev pub ask : ℕ → ℕ → Bool → Option Result → Command
ask e r fused asked = request (record { expression = e; row = r; fused = fused; result = asked })

-- a pool, commands, and the original's answers
pub data Vector : Type 0 where
  vector : Forest → List Command → List ℕ → Vector

-- ── a step in document 01's output encoding, as one number ───────────────────
abbrev pub sign_no : Bool → ℕ
sign_no false = 0
sign_no true = 1

abbrev then_ref : ℕ → Ref → ℕ
then_ref n (Ref.var (Cell.cell k i r)) = ((n * 256 + kind_no k) * 65536 + i) * 256 + r
then_ref n (Ref.number (lit s m) b) = (((n * 256 + 0x14) * 16777216) * 256 + sign_no s) * 18446744073709551616 + m

abbrev then_refs : ℕ → List Ref → ℕ
then_refs n [] = n
then_refs n (r ∷ rs) = then_refs (then_ref n r) rs

abbrev step_number : Step → ℕ
step_number s = then_refs (then_ref (step_no s.op) s.destination * 256 + length s.sources) s.sources

abbrev pub step_numbers : List Step → List ℕ
step_numbers [] = []
step_numbers (x ∷ xs) = step_number x ∷ step_numbers xs

abbrev pub counted : List ℕ → List ℕ
counted l = length l ∷ l

-- ── a state ──────────────────────────────────────────────────────────────────
-- the marks at a row as binary digits after a 1
abbrev mark_bits : State → ℕ → ℕ → ℕ → ℕ → ℕ
mark_bits st r zero e n = n
mark_bits st r (suc k) e n = mark_bits st r k (suc e) (n * 2 + sign_no (st.marks e r))

abbrev marks_of : Forest → State → List ℕ
marks_of E st = mark_bits st 0 (length E) 0 1 ∷ mark_bits st 1 (length E) 0 1 ∷ []

abbrev block_numbers : List Block → List ℕ
block_numbers [] = []
block_numbers (b ∷ bs) = ((b.expression * 256 + b.row) * 65536 + length b.steps) ∷ block_numbers bs

abbrev pub state_numbers : Forest → State → List ℕ
state_numbers E st = st.counter ∷ marks_of E st

abbrev pub segment_numbers : Segment → List ℕ
segment_numbers s = counted (step_numbers s.first) ++ (counted (step_numbers s.i) ++ counted (step_numbers s.last))

-- ── a script ─────────────────────────────────────────────────────────────────
-- an accepted request: 0, counter, marks, blocks; a refused one: its number, and the end; a build: the three lists, counter, marks after
abbrev after_request : Forest → Answer State → (State → List ℕ) → List ℕ
after_request E (done st) rest = (0 ∷ state_numbers E st) ++ (counted (block_numbers st.blocks) ++ rest st)
after_request E (refused r n) rest = number r ∷ []

abbrev answers : Forest → List Command → State → List ℕ
answers E [] st = []
answers E (request q ∷ cs) st = after_request E (serve 2 E q st) (λ st'. answers E cs st')
answers E (build ∷ cs) st = segment_numbers (segment E st) ++ (state_numbers E (after_build 2 E st) ++ answers E cs (after_build 2 E st))

abbrev pub same : List ℕ → List ℕ → Bool
same [] [] = true
same [] (y ∷ ys) = false
same (x ∷ xs) [] = false
same (x ∷ xs) (y ∷ ys) = eqb x y && same xs ys

abbrev agrees : Vector → Bool
agrees (vector E cs expected) = same (answers E cs start) expected

abbrev pub agree : List Vector → Bool
agree [] = true
agree (v ∷ vs) = agrees v && agree vs
