-- Rows 3, 5, 7 and 8 of document 01's table of refusals, for requests, each as a person would state it.
-- Assumes nothing: these are definitions.
use Rattle.std.specs.Prelude.{ℕ, ◌+◌, ◌<◌, ◌≤◌, ◌≡◌, true, false, List, ◌∷◌, ◌++◌, length}
use Rattle.std.proofs.Math.Option.{some}
use Rattle.meaning.specs.Refusals.{done}
use Rattle.meaning.specs.Trees.{Leaf, Expression, Forest, nth, ◌at◌, leaves, Each, Member}
use Rattle.meaning.specs.Order.{Marks, in_rows}
use Rattle.meaning.specs.Generation.{Block, State, Request, Result, serve_all}

-- ── one evaluation ───────────────────────────────────────────────────────────
-- The cells that the evaluation of expression e at row r evaluates: its own, where it has no mark; and the cell of each exp leaf of what is evaluated,
-- where its row is there and it has no mark.
pub data Evaluated (rows : ℕ) (E : Forest) (m : Marks) (e r : ℕ) : ℕ → ℕ → Type 0 where
  itself : m e r ≡ false → Evaluated rows E m e r e r
  named :
      {f s : ℕ} → Evaluated rows E m e r f s → (x : Expression) → nth E f ≡ some x →
      (i a n : ℕ) → Member (Leaf.exp i a at n) (leaves x.tree) → s + a < rows → m i (s + a) ≡ false →
      Evaluated rows E m e r i (s + a)

-- 5: it reaches a leaf that reads a row that is not there. With two rows: a cm, const, exp or q leaf with next, in a primed evaluation.
pub record DoublePrime (rows : ℕ) (E : Forest) (m : Marks) (e r : ℕ) : Type 0 where
  pub expression : ℕ
  pub row : ℕ
  pub evaluated : Evaluated rows E m e r expression row
  pub found : Expression
  pub there : nth E expression ≡ some found
  pub leaf : Leaf
  pub node : ℕ
  pub stands : Member (leaf at node) (leaves found.tree)
  pub beyond : in_rows rows leaf row ≡ false

-- ── one request ──────────────────────────────────────────────────────────────
-- the context holds a block of expression e at row r
pub record Stands (e r : ℕ) (bs : List Block) : Type 0 where
  pub block : Block
  pub member : Member block bs
  pub expression : block.expression ≡ e
  pub row : block.row ≡ r

abbrev pub HasStep : Block → Type 0
HasStep b = 1 ≤ length b.steps

-- each block of a context has a step. So it is at the start, and requests keep it.
abbrev pub Stepped : State → Type 0
Stepped st = Each HasStep st.blocks

-- a result is asked
abbrev pub AsksResult : Request → Type 0
AsksResult q = (w : Result) × (q.result ≡ some w)

abbrev pub Marked : Request → State → Type 0
Marked q st = st.marks q.expression q.row ≡ true

abbrev pub Unmarked : Request → State → Type 0
Unmarked q st = st.marks q.expression q.row ≡ false

module _ (rows : ℕ) (E : Forest) where
  abbrev pub DoublePrimeFor : Request → State → Type 0
  DoublePrimeFor q st = DoublePrime rows E st.marks q.expression q.row

  -- 3: the expression is not there
  pub record Refused3 (q : Request) (st : State) : Type 0 where
    pub lost : length E ≤ q.expression

  -- 5: it is there and has no mark, and its evaluation reads a row that is not there
  pub record Refused5 (q : Request) (st : State) : Type 0 where
    pub there : q.expression < length E
    pub unmarked : Unmarked q st
    pub double : DoublePrimeFor q st

  -- 7: it is there and has no mark, its evaluation reads rows that are there, and the request is primed and asks a result
  pub record Refused7 (q : Request) (st : State) : Type 0 where
    pub there : q.expression < length E
    pub unmarked : Unmarked q st
    pub single : DoublePrimeFor q st → ⊥
    pub asks : AsksResult q
    pub primed : 1 ≤ q.row

  -- 8: it is there and marked, a result is asked, and no block of it stands
  pub record Refused8 (q : Request) (st : State) : Type 0 where
    pub there : q.expression < length E
    pub marked : Marked q st
    pub asks : AsksResult q
    pub no_block : Stands q.expression q.row st.blocks → ⊥

  -- none of the four
  abbrev pub NotRefused : Request → State → Type 0
  NotRefused q st = (Refused3 q st → ⊥) × (Refused5 q st → ⊥) × (Refused7 q st → ⊥) × (Refused8 q st → ⊥)

  -- ── a list of requests ─────────────────────────────────────────────────────
  -- some request meets the condition after those before it were served
  pub record FirstRefused (condition : Request → State → Type 0) (qs : List Request) (st : State) : Type 0 where
    pub before : List Request
    pub request : Request
    pub after : List Request
    pub splits : qs ≡ before ++ (request ∷ after)
    pub state : State
    pub served : serve_all rows E before st ≡ done state
    pub meets : condition request state

  -- none is refused
  abbrev pub NoneRefused : List Request → State → Type 0
  NoneRefused qs st =
      (FirstRefused Refused3 qs st → ⊥) × (FirstRefused Refused5 qs st → ⊥) × (FirstRefused Refused7 qs st → ⊥) × (FirstRefused Refused8 qs st → ⊥)

-- ── two rows ─────────────────────────────────────────────────────────────────
-- a cm, const, exp or q leaf with next
abbrev pub WithNext : Leaf → Type 0
WithNext (Leaf.cell k i a) = a ≡ 1
WithNext (Leaf.exp i a) = a ≡ 1
WithNext (Leaf.number l) = ⊥
WithNext (Leaf.flat k i) = ⊥
WithNext (Leaf.x k) = ⊥

-- next is absent or true, as document 01 has it
abbrev pub NextAtMostOne : Leaf → Type 0
NextAtMostOne (Leaf.cell k i a) = a ≤ 1
NextAtMostOne (Leaf.exp i a) = a ≤ 1
NextAtMostOne (Leaf.number l) = Unit {0}
NextAtMostOne (Leaf.flat k i) = Unit {0}
NextAtMostOne (Leaf.x k) = Unit {0}
