-- Document 01's examples of generation that are marked P, as rows of a table that one statement proves.
-- Assumes nothing.
use Rattle.std.specs.Prelude.{ℕ, ◌≡◌, refl, Bool, true, false, List, [], ◌∷◌}
use Rattle.std.proofs.Math.Option.{none}
use Rattle.meaning.specs.Refusals.{Answer, done, ◌then◌}
use Rattle.meaning.specs.Trees.{lit, RowKind, Op, Leaf, Expr, Each}
use Rattle.meaning.specs.Steps.{Kind, Cell, Ref, StepOp, Step, step, tmp_ref, exp_cell}
use Rattle.meaning.specs.Building.{whole}

-- one expression, requested plain: its tree, is it fused, the first list, the counter
pub record Example : Type 0 where
  pub tree : Expr
  pub fused : Bool
  pub first : List Step
  pub counter : ℕ

-- the list and the counter of the whole run
pub record Printed : Type 0 where
  pub first : List Step
  pub counter : ℕ

abbrev pub printed : Expr → Bool → Answer Printed
printed t fused =
    whole 2 (record { tree = t; keep = false; keep2ns = false; id_q = false } ∷ []) (record { expression = 0; row = 0; fused = fused; result = none } ∷ []) then λ s.
    done (record { first = s.first; counter = s.counter })

abbrev pub Right : Example → Type 0
Right x = printed x.tree x.fused ≡ done (record { first = x.first; counter = x.counter })

abbrev cm : ℕ → ℕ → Expr
cm n i = Expr.leaf n (Leaf.cell RowKind.cm i 0)

abbrev cm_ref : ℕ → Ref
cm_ref i = Ref.var (Cell.cell (Kind.row RowKind.cm) i 0)

abbrev e0 : Ref
e0 = Ref.var (exp_cell 0 0)

-- cm0·cm1 + const0'
abbrev sum : Expr
sum = Expr.bin 4 Op.add (Expr.bin 2 Op.mul (cm 0 0) (cm 1 1)) (Expr.leaf 3 (Leaf.cell RowKind.const 0 1))

abbrev const_next : Ref
const_next = Ref.var (Cell.cell (Kind.row RowKind.const) 0 1)

abbrev pub table : List Example
table =
    record { tree = sum; fused = true; first = step StepOp.muladd e0 (cm_ref 0 ∷ cm_ref 1 ∷ const_next ∷ []) ∷ []; counter = 0 }
    ∷ record {
      tree = sum;
      fused = false;
      first = step StepOp.mul (tmp_ref 0) (cm_ref 0 ∷ cm_ref 1 ∷ []) ∷ step StepOp.add e0 (tmp_ref 0 ∷ const_next ∷ []) ∷ [];
      counter = 1;
    }
    ∷ record {
      tree = Expr.bin 6 Op.add (Expr.bin 2 Op.mul (cm 0 0) (cm 1 1)) (Expr.bin 5 Op.mul (cm 3 2) (cm 4 3));
      fused = true;
      first = step StepOp.mul (tmp_ref 0) (cm_ref 2 ∷ cm_ref 3 ∷ []) ∷ step StepOp.muladd e0 (cm_ref 0 ∷ cm_ref 1 ∷ tmp_ref 0 ∷ []) ∷ [];
      counter = 1;
    }
    ∷ record { tree = Expr.neg 1 (cm 0 0); fused = false; first = step StepOp.sub e0 (Ref.number (lit false 0) 1 ∷ cm_ref 0 ∷ []) ∷ []; counter = 0 }
    ∷ record { tree = cm 0 0; fused = false; first = step StepOp.copy e0 (cm_ref 0 ∷ []) ∷ []; counter = 0 }
    ∷ []

-- THE EXAMPLES MARKED P
pub examples : Each Right table
examples = (refl, (refl, (refl, (refl, (refl, tt)))))
