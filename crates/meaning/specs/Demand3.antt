-- DEMAND 3, before fixing: the statement. Its proof stands in Proved.antt.
-- Assumes nothing: these are definitions.
use Rattle.std.specs.Prelude.{ℕ, ◌+◌, ◌<◌, ◌≡◌, List, [], ◌∷◌}
use Rattle.std.proofs.Math.Option.{none, some}
use Rattle.meaning.specs.Refusals.{done}
use Rattle.meaning.specs.Trees.{RowKind, FlatKind, Leaf, Expression, Forest, Acyclic, nth, Placed, ◌at◌, leaves, Each, Member, up_to}
use Rattle.meaning.specs.Steps.{Kind, Cell, place, Ref, StepOp, Step, exp_cell}
use Rattle.meaning.specs.Values.{Algebra, Given, Value, value}
use Rattle.meaning.specs.Running.{Store, empty, run}
use Rattle.meaning.specs.Generation.{State, start, Request, serve_all}
use Rattle.meaning.specs.Building.{segment}

-- ── what is assumed ──────────────────────────────────────────────────────────
-- no x-kind and no q leaf
abbrev pub PlainLeaf : Placed → Type 0
PlainLeaf (Leaf.cell RowKind.cm i a at n) = Unit {0}
PlainLeaf (Leaf.cell RowKind.const i a at n) = Unit {0}
PlainLeaf (Leaf.cell RowKind.q i a at n) = ⊥
PlainLeaf (Leaf.exp i a at n) = Unit {0}
PlainLeaf (Leaf.number l at n) = Unit {0}
PlainLeaf (Leaf.flat k i at n) = Unit {0}
PlainLeaf (Leaf.x k at n) = ⊥

abbrev pub Throughout : (Placed → Type 0) → Forest → Type 0
Throughout P E = (e : ℕ) (x : Expression) → nth E e ≡ some x → Each P (leaves x.tree)

-- each cm and const has a value at each row, and each public, challenge and eval has one
pub record AllGiven {A : Type 0} (rows : ℕ) (G : Given A) : Type 0 where
  pub cms : (i r : ℕ) → r < rows → (v : A) × (G.cells RowKind.cm i r ≡ some v)
  pub consts : (i r : ℕ) → r < rows → (v : A) × (G.cells RowKind.const i r ≡ some v)
  pub flats : (k : FlatKind) (i : ℕ) → (v : A) × (G.flats k i ≡ some v)

abbrev pub NoResult : Request → Type 0
NoResult q = q.result ≡ none

-- ── what is promised ─────────────────────────────────────────────────────────
-- cells that have no value before a step writes them
abbrev pub Ungiven : Cell → Type 0
Ungiven (Cell.cell (Kind.row k) i r) = ⊥
Ungiven (Cell.cell (Kind.flat k) i r) = ⊥
Ungiven (Cell.cell (Kind.x k) i r) = ⊥
Ungiven (Cell.cell Kind.exp i r) = Unit {0}
Ungiven (Cell.cell Kind.tmp i r) = Unit {0}
Ungiven (Cell.cell Kind.f i r) = Unit {0}
Ungiven (Cell.cell Kind.tmp_exp i r) = Unit {0}
Ungiven (Cell.cell (Kind.bare k) i r) = Unit {0}

-- a source is given a value, or is among the cells written
abbrev pub Written : List Cell → Ref → Type 0
Written ds (Ref.var c) = Ungiven c → Member (place c) ds
Written ds (Ref.number l n) = Unit {0}

-- how many sources a step needs, and which
abbrev pub needs : StepOp → ℕ
needs StepOp.add = 2
needs StepOp.sub = 2
needs StepOp.mul = 2
needs StepOp.muladd = 3
needs StepOp.copy = 1

abbrev pub writing : Ref → List Cell → List Cell
writing (Ref.var c) ds = place c ∷ ds
writing (Ref.number l n) ds = ds

-- no step reads such a cell, a temporary or an exp cell, before an earlier step wrote it
abbrev pub NoEarlyRead : List Cell → List Step → Type 0
NoEarlyRead ds [] = Unit {0}
NoEarlyRead ds (x ∷ xs) = Each (Written ds) (up_to (needs x.op) x.sources) × NoEarlyRead (writing x.destination ds) xs

module _ (𝓐 : Algebra) (G : Given 𝓐.A) (E : Forest) where
  -- the exp cell of an expression at a row holds the expression's value there
  abbrev pub Held : Store 𝓐.A → ℕ → ℕ → Type 0
  Held s e r = (v : 𝓐.A) × (s (exp_cell e r) ≡ some v) × Value 𝓐 G E e r v

  abbrev pub HeldFor : Store 𝓐.A → Request → Type 0
  HeldFor s q = Held s q.expression q.row

  -- the same by the function: what the cell holds is the value
  abbrev pub ValueFor : Store 𝓐.A → Request → Type 0
  ValueFor s q = s (exp_cell q.expression q.row) ≡ value 𝓐 G E q.expression q.row

  -- the list runs to its end, reads nothing early, and leaves in each requested cell its expression's value
  pub record Computes (xs : List Step) (qs : List Request) : Type 0 where
    pub end : Store 𝓐.A
    pub runs : run 𝓐 G xs empty ≡ some end
    pub no_early_read : NoEarlyRead [] xs
    pub held : Each (HeldFor end) qs
    pub values : Each (ValueFor end) qs

-- DEMAND 3. Two rows are the mission's; the proof is once for any number of them.
abbrev pub Demand3 : Algebra → Type 0
Demand3 𝓐 =
    (rows : ℕ) (G : Given 𝓐.A) (E : Forest) → Acyclic E → Throughout PlainLeaf E → AllGiven rows G →
    (qs : List Request) → Each NoResult qs → (st : State) → serve_all rows E qs start ≡ done st →
    Computes 𝓐 G E (segment E st).first qs

-- ── the same with less assumed ───────────────────────────────────────────────
-- A leaf's value is given at each row it may read; an x kind's is the same at every row. q and x-kind leaves may occur.
module _ {A : Type 0} (rows : ℕ) (G : Given A) where
  abbrev pub Fed : Placed → Type 0
  Fed (Leaf.cell k i a at n) = (r : ℕ) → r + a < rows → (v : A) × (G.cells k i (r + a) ≡ some v)
  Fed (Leaf.exp i a at n) = Unit {0}
  Fed (Leaf.number l at n) = Unit {0}
  Fed (Leaf.flat k i at n) = (v : A) × (G.flats k i ≡ some v)
  Fed (Leaf.x k at n) = (v : A) × ((r : ℕ) → G.xs k r ≡ some v)

abbrev pub Demand3Fed : Algebra → Type 0
Demand3Fed 𝓐 =
    (rows : ℕ) (G : Given 𝓐.A) (E : Forest) → Acyclic E → Throughout (Fed rows G) E →
    (qs : List Request) → Each NoResult qs → (st : State) → serve_all rows E qs start ≡ done st →
    Computes 𝓐 G E (segment E st).first qs
