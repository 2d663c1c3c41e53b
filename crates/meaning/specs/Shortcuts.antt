-- The shortcuts that document 01 says break it, each ruled out by a computed fact.
-- Assumes nothing.
use Rattle.std.specs.Prelude.{ℕ, ◌≡◌, refl, Bool, true, false, List, [], ◌∷◌}
use Rattle.std.proofs.Math.Option.{none}
use Rattle.meaning.specs.Refusals.{Answer, done, ◌then◌}
use Rattle.meaning.specs.Trees.{RowKind, Op, Leaf, Expr, Expression, Forest}
use Rattle.meaning.specs.Steps.{Kind, Cell, Ref, StepOp, Step, step, tmp_ref, exp_cell}
use Rattle.meaning.specs.Generation.{start, Request, serve_all}
use Rattle.meaning.specs.Building.{Segment, segment, after_build, whole}

abbrev cm : ℕ → Expr
cm i = Expr.leaf i (Leaf.cell RowKind.cm i 0)

abbrev cm_ref : ℕ → ℕ → Ref
cm_ref i r = Ref.var (Cell.cell (Kind.row RowKind.cm) i r)

abbrev exp_ref : ℕ → ℕ → Ref
exp_ref e r = Ref.var (exp_cell e r)

abbrev plain : Expr → Expression
plain t = record { tree = t; keep = false; keep2ns = false; id_q = false }

abbrev kept : Expr → Expression
kept t = record { tree = t; keep = true; keep2ns = false; id_q = false }

abbrev ask : ℕ → ℕ → Bool → Request
ask e r fused = record { expression = e; row = r; fused = fused; result = none }

abbrev copy_of : ℕ → ℕ → ℕ → Step
copy_of e r i = step StepOp.copy (exp_ref e r) (cm_ref i r ∷ [])

-- "Treating a mark stored as false as no mark, so that a second build emits blocks again"
abbrev second : Forest → List Request → List Request → Answer Segment
second E before after =
    serve_all 2 E before start then λ st.
    serve_all 2 E after (after_build 2 E st) then λ st'.
    done (segment E st')

pub a-build-marks : second (plain (cm 0) ∷ []) (ask 0 0 false ∷ []) (ask 0 0 false ∷ ask 0 1 false ∷ []) ≡ done (record { first = []; i = []; last = []; counter = 0 })
a-build-marks = refl

-- "Passing the fuse flag down to dependencies": e0 = cm0·cm1 + cm2, e1 = e0·cm3 + cm4, e1 asked fused
abbrev nested : Forest
nested =
    plain (Expr.bin 10 Op.add (Expr.bin 11 Op.mul (cm 0) (cm 1)) (cm 2))
    ∷ plain (Expr.bin 12 Op.add (Expr.bin 13 Op.mul (Expr.leaf 14 (Leaf.exp 0 0)) (cm 3)) (cm 4))
    ∷ []

abbrev first_of : Answer Segment → Answer (List Step)
first_of x = x then λ s. done s.first

pub dependencies_are_not-fused :
    first_of (whole 2 nested (ask 1 0 true ∷ [])) ≡
    done
    (step StepOp.mul (tmp_ref 0) (cm_ref 0 0 ∷ cm_ref 1 0 ∷ [])
    ∷ step StepOp.add (exp_ref 0 0) (tmp_ref 0 ∷ cm_ref 2 0 ∷ [])
    ∷ step StepOp.muladd (exp_ref 1 0) (exp_ref 0 0 ∷ cm_ref 3 0 ∷ cm_ref 4 0 ∷ [])
    ∷ [])
dependencies_are_not-fused = refl

-- "Looking up skipped blocks by their expression": e2 keep; e2, e2', e0 asked: block number 2, e0's, is skipped and e2's are not
pub blocks_are_skipped-by-number :
    whole 2 (plain (cm 0) ∷ plain (cm 1) ∷ kept (cm 2) ∷ []) (ask 2 0 false ∷ ask 2 1 false ∷ ask 0 0 false ∷ []) ≡
    done
    (record {
      first = copy_of 2 0 2 ∷ copy_of 2 1 2 ∷ copy_of 0 0 0 ∷ [];
      i = copy_of 2 0 2 ∷ copy_of 2 1 2 ∷ [];
      last = copy_of 2 0 2 ∷ copy_of 2 1 2 ∷ [];
      counter = 0;
    })
blocks_are_skipped-by-number = refl
