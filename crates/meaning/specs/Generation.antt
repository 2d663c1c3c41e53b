-- Requests: blocks, result copies, and refusals 3, 5, 7, 8.
-- Assumes nothing: these are definitions.
use Rattle.std.specs.Prelude.{ℕ, zero, suc, Bool, ◌&&◌, cond, List, [], ◌∷◌, ◌++◌, eqb}
use Rattle.std.proofs.Math.Option.{Option, none, some}
use Rattle.meaning.specs.Refusals.{Refusal, Answer, done, refused, ◌then◌}
use Rattle.meaning.specs.Trees.{Expression, Forest, nth}
use Rattle.meaning.specs.Steps.{Kind, Cell, Ref, StepOp, Step, step, exp_cell}
use Rattle.meaning.specs.Emission.{Emitted, emit, block_steps}
use Rattle.meaning.specs.Order.{Marks, unmarked, Job, Asked, asked, there, ask}

pub record Block : Type 0 where
  pub expression : ℕ
  pub row : ℕ
  pub steps : List Step

-- a context
pub record State : Type 0 where
  pub marks : Marks
  pub blocks : List Block
  pub counter : ℕ

abbrev pub start : State
start = record { marks = unmarked; blocks = []; counter = 0 }

-- what a result is asked for in: a kind and an id, at the request's row
pub data Result : Type 0 where
  result : Kind → ℕ → Result

pub record Request : Type 0 where
  pub expression : ℕ
  pub row : ℕ
  pub fused : Bool
  pub result : Option Result

-- the blocks of jobs, each counter going on from the last
pub record Made : Type 0 where
  pub blocks : List Block
  pub counter : ℕ

abbrev pub block_of : Job → Emitted → Block
block_of j x =
    record { expression = j.expression; row = j.row; steps = block_steps x (Ref.var (exp_cell j.expression j.row)) }

abbrev pub make_one : Job → Option Expression → ℕ → Made
make_one j none t = record { blocks = []; counter = t }
make_one j (some x) t =
    let y = emit (asked j.fused x.tree) j.row t in
    record { blocks = block_of j y ∷ []; counter = y.free }

abbrev pub make : Forest → List Job → ℕ → Made
make E [] t = record { blocks = []; counter = t }
make E (j ∷ js) t =
    let x = make_one j (nth E j.expression) t in
    let y = make E js x.counter in
    record { blocks = x.blocks ++ y.blocks; counter = y.counter }

-- result copies: from the last destination of the expression's block, at that block's end
abbrev pub last_destination : List Step → Option Ref
last_destination [] = none
last_destination (x ∷ []) = some x.destination
last_destination (x ∷ y ∷ ys) = last_destination (y ∷ ys)

abbrev pub copied : Block → Ref → Option Ref → Option Block
copied b d none = none
copied b d (some r) = some (record { expression = b.expression; row = b.row; steps = b.steps ++ (step StepOp.copy d (r ∷ []) ∷ []) })

abbrev pub is_block : ℕ → ℕ → Block → Bool
is_block e r b = eqb e b.expression && eqb r b.row

abbrev pub onto : {A : Type 0} → A → Option (List A) → Option (List A)
onto a none = none
onto a (some l) = some (a ∷ l)

abbrev pub before : {A : Type 0} → Option A → List A → Option (List A)
before none l = none
before (some a) l = some (a ∷ l)

abbrev pub copy_into : ℕ → ℕ → Ref → List Block → Option (List Block)
copy_into e r d [] = none
copy_into e r d (b ∷ bs) = cond (is_block e r b) (before (copied b d (last_destination b.steps)) bs) (onto b (copy_into e r d bs))

abbrev pub with_blocks : State → Option (List Block) → Answer State
with_blocks st none = refused Refusal.no_block none
with_blocks st (some bs) = done (record { marks = st.marks; blocks = bs; counter = st.counter })

abbrev pub copy_out : ℕ → ℕ → Option Result → State → Answer State
copy_out e r none st = done st
copy_out e r (some (result k i)) st = with_blocks st (copy_into e r (Ref.var (Cell.cell k i r)) st.blocks)

-- a result is not given for a primed request that generates
abbrev pub plain_result : ℕ → Option Result → Answer (Unit {0})
plain_result r none = done tt
plain_result zero (some q) = done tt
plain_result (suc r) (some q) = refused Refusal.no_primed_mark none

abbrev pub adding : Forest → Asked → State → State
adding E a st =
    let x = make E a.jobs st.counter in
    record { marks = a.marks; blocks = st.blocks ++ x.blocks; counter = x.counter }

module _ (rows : ℕ) (E : Forest) where
  abbrev pub generate : Request → State → Answer State
  generate q st =
      ask rows E q.fused q.expression q.row st.marks then λ a.
      plain_result q.row q.result then λ _.
      done (adding E a st)

  -- one request
  abbrev pub serve : Request → State → Answer State
  serve q st =
      there (nth E q.expression) then λ _.
      cond (st.marks q.expression q.row) (done st) (generate q st) then λ st'.
      copy_out q.expression q.row q.result st'

  -- requests in order, up to the first that is refused
  abbrev pub serve_all : List Request → State → Answer State
  serve_all [] st = done st
  serve_all (q ∷ qs) st = serve q st then λ st'. serve_all qs st'
