-- The steps of one tree (eval_exp), and the block of one expression at one row.
-- Assumes nothing: these are definitions.
use Rattle.std.specs.Prelude.{ℕ, suc, ◌+◌, false, List, [], ◌∷◌, ◌++◌}
use Rattle.meaning.specs.Trees.{lit, Op, Leaf, Expr}
use Rattle.meaning.specs.Steps.{Kind, Cell, Ref, StepOp, Step, step, tmp_ref, exp_cell}
use Rattle.meaning.specs.Values.{opc}

-- the prime of an x kind's reference in a request at row r: none, as in the Rust
abbrev pub x_row : ℕ → ℕ
x_row r = 0

-- the reference that a leaf at node n becomes at row r
abbrev pub leaf_ref : ℕ → Leaf → ℕ → Ref
leaf_ref n (Leaf.cell k i a) r = Ref.var (Cell.cell (Kind.row k) i (r + a))
leaf_ref n (Leaf.exp i a) r = Ref.var (exp_cell i (r + a))
leaf_ref n (Leaf.number l) r = Ref.number l n
leaf_ref n (Leaf.flat k i) r = Ref.var (Cell.cell (Kind.flat k) i 0)
leaf_ref n (Leaf.x k) r = Ref.var (Cell.cell (Kind.x k) 0 (x_row r))

abbrev pub step_op : Op → StepOp
step_op Op.add = StepOp.add
step_op Op.sub = StepOp.sub
step_op Op.mul = StepOp.mul

-- what gives a tree its value after the steps of its children: a leaf's reference, or an operation's own step
pub data Own : Type 0 where
  ref : Ref → Own
  operation : StepOp → List Ref → Own

-- the steps before it, it, and the first temporary that is free then
pub record Emitted : Type 0 where
  pub steps : List Step
  pub own : Own
  pub free : ℕ

-- where the value of a tree stands, after which steps
pub record Settled : Type 0 where
  pub steps : List Step
  pub result : Ref
  pub free : ℕ

-- each operation takes the next temporary
abbrev pub settle : List Step → Own → ℕ → Settled
settle xs (Own.ref r) t = record { steps = xs; result = r; free = t }
settle xs (Own.operation o rs) t = record { steps = xs ++ (step o (tmp_ref t) rs ∷ []); result = tmp_ref t; free = suc t }

abbrev pub settled : Emitted → Settled
settled x = settle x.steps x.own x.free

-- postorder, left child first; addc is an add with its literal second, mulc a mul likewise, neg a sub with literal 0 first
abbrev pub emit : Expr → ℕ → ℕ → Emitted
emit (Expr.leaf n l) r t = record { steps = []; own = Own.ref (leaf_ref n l r); free = t }
emit (Expr.bin n o a b) r t =
    let x = settled (emit a r t) in
    let y = settled (emit b r x.free) in
    record { steps = x.steps ++ y.steps; own = Own.operation (step_op o) (x.result ∷ y.result ∷ []); free = y.free }
emit (Expr.muladd n a b c) r t =
    let x = settled (emit a r t) in
    let y = settled (emit b r x.free) in
    let z = settled (emit c r y.free) in
    record { steps = x.steps ++ (y.steps ++ z.steps); own = Own.operation StepOp.muladd (x.result ∷ y.result ∷ z.result ∷ []); free = z.free }
emit (Expr.binc n o a l) r t =
    let x = settled (emit a r t) in
    record { steps = x.steps; own = Own.operation (step_op (opc o)) (x.result ∷ Ref.number l n ∷ []); free = x.free }
emit (Expr.neg n a) r t =
    let x = settled (emit a r t) in
    record { steps = x.steps; own = Own.operation StepOp.sub (Ref.number (lit false 0) n ∷ x.result ∷ []); free = x.free }

-- An operation at the root writes the cell itself and takes no temporary; a leaf at the root is copied.
abbrev pub root_step : Own → Ref → Step
root_step (Own.ref r) d = step StepOp.copy d (r ∷ [])
root_step (Own.operation o rs) d = step o d rs

abbrev pub block_steps : Emitted → Ref → List Step
block_steps x d = x.steps ++ (root_step x.own d ∷ [])
