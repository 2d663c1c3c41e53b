-- DEMAND 3, after fixing: the statement. Its proof stands in ProvedFixed.antt.
-- Assumes nothing: these are definitions.
use Rattle.std.specs.Prelude.{ℕ, ◌≡◌, List, [], ◌∷◌}
use Rattle.std.proofs.Math.Option.{some}
use Rattle.meaning.specs.Refusals.{done}
use Rattle.meaning.specs.Trees.{RowKind, Leaf, Forest, Acyclic, Placed, ◌at◌, Each, Member, up_to}
use Rattle.meaning.specs.Steps.{Kind, Cell, place, Ref, Step, exp_cell}
use Rattle.meaning.specs.Values.{Algebra, Given, Value, value}
use Rattle.meaning.specs.Running.{Store, empty, run}
use Rattle.meaning.specs.Generation.{State, start, Request, serve_all}
use Rattle.meaning.specs.Building.{Segment, segment}
use Rattle.meaning.specs.Demand3.{PlainLeaf, Throughout, AllGiven, NoResult, Fed, needs, writing}
use Rattle.fixed_meaning.specs.Fixing.{Plan, fix_cell, fix_end, fix_segment}

-- ── what is assumed of a plan ────────────────────────────────────────────────
-- the columns of intermediates differ, and those of temporary expressions do
pub record ColumnsDiffer (L : Plan) : Type 0 where
  pub ims : (e e' c : ℕ) → L.im e ≡ some c → L.im e' ≡ some c → e ≡ e'
  pub columns : (e e' k : ℕ) → L.column e ≡ some k → L.column e' ≡ some k → e ≡ e'

-- no intermediate has the column c
abbrev pub Free : Plan → ℕ → Type 0
Free L c = (e : ℕ) → L.im e ≡ some c → ⊥

-- no cm leaf reads an intermediate's column
abbrev pub NoIntermediateRead : Plan → Placed → Type 0
NoIntermediateRead L (Leaf.cell RowKind.cm i a at n) = Free L i
NoIntermediateRead L (Leaf.cell RowKind.const i a at n) = Unit {0}
NoIntermediateRead L (Leaf.cell RowKind.q i a at n) = Unit {0}
NoIntermediateRead L (Leaf.exp i a at n) = Unit {0}
NoIntermediateRead L (Leaf.number l at n) = Unit {0}
NoIntermediateRead L (Leaf.flat k i at n) = Unit {0}
NoIntermediateRead L (Leaf.x k at n) = Unit {0}

-- ── what is promised ─────────────────────────────────────────────────────────
-- Cells without a value of their own. An intermediate's column is one: read too early it would fall back to a given value.
abbrev pub Unset : Plan → Cell → Type 0
Unset L (Cell.cell (Kind.row RowKind.cm) i r) = (e : ℕ) × (L.im e ≡ some i)
Unset L (Cell.cell (Kind.row RowKind.const) i r) = ⊥
Unset L (Cell.cell (Kind.row RowKind.q) i r) = ⊥
Unset L (Cell.cell (Kind.flat k) i r) = ⊥
Unset L (Cell.cell (Kind.x k) i r) = ⊥
Unset L (Cell.cell Kind.exp i r) = Unit {0}
Unset L (Cell.cell Kind.tmp i r) = Unit {0}
Unset L (Cell.cell Kind.f i r) = Unit {0}
Unset L (Cell.cell Kind.tmp_exp i r) = Unit {0}
Unset L (Cell.cell (Kind.bare k) i r) = Unit {0}

-- a source is none of N, or is among the cells written
abbrev pub WrittenOf : (Cell → Type 0) → List Cell → Ref → Type 0
WrittenOf N ds (Ref.var c) = N c → Member (place c) ds
WrittenOf N ds (Ref.number l n) = Unit {0}

-- no step reads a cell of N before an earlier step wrote it
abbrev pub NoEarlyReadOf : (Cell → Type 0) → List Cell → List Step → Type 0
NoEarlyReadOf N ds [] = Unit {0}
NoEarlyReadOf N ds (x ∷ xs) = Each (WrittenOf N ds) (up_to (needs x.op) x.sources) × NoEarlyReadOf N (writing x.destination ds) xs

-- no exp cell
abbrev pub NotExp : Cell → Type 0
NotExp (Cell.cell (Kind.row k) i r) = Unit {0}
NotExp (Cell.cell (Kind.flat k) i r) = Unit {0}
NotExp (Cell.cell (Kind.x k) i r) = Unit {0}
NotExp (Cell.cell Kind.exp i r) = ⊥
NotExp (Cell.cell Kind.tmp i r) = Unit {0}
NotExp (Cell.cell Kind.f i r) = Unit {0}
NotExp (Cell.cell Kind.tmp_exp i r) = Unit {0}
NotExp (Cell.cell (Kind.bare k) i r) = Unit {0}

-- the cell that fixing a segment gave a request's expression; a temporary is its number
abbrev pub cell_for : Plan → Segment → Request → Cell
cell_for L S q = place (fix_cell L (fix_end L S).map (exp_cell q.expression q.row))

-- fixing gave it one
abbrev pub CellGiven : Plan → Segment → Request → Type 0
CellGiven L S q = NotExp (cell_for L S q)

module _ (𝓐 : Algebra) (G : Given 𝓐.A) (E : Forest) (L : Plan) (S : Segment) where
  -- the cell of a request holds its expression's value, as a relation and as a function
  abbrev pub HeldFixed : Store 𝓐.A → Request → Type 0
  HeldFixed s q = (v : 𝓐.A) × (s (cell_for L S q) ≡ some v) × Value 𝓐 G E q.expression q.row v

  abbrev pub ValueFixed : Store 𝓐.A → Request → Type 0
  ValueFixed s q = s (cell_for L S q) ≡ value 𝓐 G E q.expression q.row

  -- the fixed first list runs to its end, reads nothing early, and leaves in the cell that fixing gave each requested expression its value
  pub record ComputesFixed (qs : List Request) : Type 0 where
    pub end : Store 𝓐.A
    pub runs : run 𝓐 G (fix_segment L S).first empty ≡ some end
    pub no_early_read : NoEarlyReadOf (Unset L) [] (fix_segment L S).first
    pub cells_given : Each (CellGiven L S) qs
    pub held : Each (HeldFixed end) qs
    pub values : Each (ValueFixed end) qs

-- DEMAND 3 AFTER FIXING, for either domain: a plan's columns are none in "2ns". Two rows are the mission's; the proof is once for any number of them.
abbrev pub Demand3Fixed : Algebra → Type 0
Demand3Fixed 𝓐 =
    (rows : ℕ) (G : Given 𝓐.A) (E : Forest) → Acyclic E → Throughout PlainLeaf E → AllGiven rows G →
    (L : Plan) → ColumnsDiffer L → Throughout (NoIntermediateRead L) E →
    (qs : List Request) → Each NoResult qs → (st : State) → serve_all rows E qs start ≡ done st →
    ComputesFixed 𝓐 G E L (segment E st) qs

-- the same with less assumed: q and x-kind leaves may occur, and each leaf's value is given where it is read
abbrev pub Demand3FixedFed : Algebra → Type 0
Demand3FixedFed 𝓐 =
    (rows : ℕ) (G : Given 𝓐.A) (E : Forest) → Acyclic E → Throughout (Fed rows G) E →
    (L : Plan) → ColumnsDiffer L → Throughout (NoIntermediateRead L) E →
    (qs : List Request) → Each NoResult qs → (st : State) → serve_all rows E qs start ≡ done st →
    ComputesFixed 𝓐 G E L (segment E st) qs
