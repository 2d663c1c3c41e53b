-- WHAT A RECORD SAYS: the step of meaning that a byte record stands for, with the literal of each node that brought a number.
-- Assumes nothing: these are definitions.
use Rattle.std.specs.Prelude.{ℕ, cond, List, [], ◌∷◌, eqb}
use Rattle.std.proofs.Math.Option.{Option, none, some}
use Rattle.kinds.specs.KindBytes as kind
use Rattle.kinds.specs.OpBytes as op
use Rattle.kinds.specs.declared.reference.Reference.{Reference}
use Rattle.kinds.specs.declared.step.Step as bytes
use Rattle.meaning.specs.Trees.{Lit, RowKind, FlatKind, XKind}
use Rattle.meaning.specs.Values.{bind}
use Rattle.meaning.specs.Steps.{BareKind, Kind, Cell, Ref, StepOp, Step, step}
use Rattle.lists.specs.Records.{counted_in}

-- document 01's kind bytes, but number's
unfoldable pub kind_from : ℕ → Option Kind
kind_from b =
    cond (eqb b kind.cm) (some (Kind.row RowKind.cm))
    (cond (eqb b kind.const) (some (Kind.row RowKind.const))
    (cond (eqb b kind.exp) (some Kind.exp)
    (cond (eqb b kind.q) (some (Kind.row RowKind.q))
    (cond (eqb b kind.public) (some (Kind.flat FlatKind.public))
    (cond (eqb b kind.challenge) (some (Kind.flat FlatKind.challenge))
    (cond (eqb b kind.eval) (some (Kind.flat FlatKind.eval))
    (cond (eqb b kind.x_div_x_sub_xi) (some (Kind.x XKind.x_div_x_sub_xi))
    (cond (eqb b kind.x_div_x_sub_w_xi) (some (Kind.x XKind.x_div_x_sub_w_xi))
    (cond (eqb b kind.x) (some (Kind.x XKind.plain_x))
    (cond (eqb b kind.tmp) (some Kind.tmp)
    (cond (eqb b kind.f) (some Kind.f)
    (cond (eqb b kind.tmp_exp) (some Kind.tmp_exp)
    (cond (eqb b kind.Zi) (some (Kind.bare BareKind.Zi))
    (cond (eqb b kind.tree1) (some (Kind.bare BareKind.tree1))
    (cond (eqb b kind.tree2) (some (Kind.bare BareKind.tree2))
    (cond (eqb b kind.tree3) (some (Kind.bare BareKind.tree3))
    (cond (eqb b kind.tree4) (some (Kind.bare BareKind.tree4))
    (cond (eqb b kind.Z) (some (Kind.bare BareKind.Z)) none))))))))))))))))))

-- document 01's step bytes
unfoldable pub op_from : ℕ → Option StepOp
op_from b =
    cond (eqb b op.add) (some StepOp.add)
    (cond (eqb b op.sub) (some StepOp.sub)
    (cond (eqb b op.mul) (some StepOp.mul)
    (cond (eqb b op.muladd) (some StepOp.muladd)
    (cond (eqb b op.copy) (some StepOp.copy) none))))

module _ (literal : ℕ → Lit) where
  -- a number: the literal of the node that brought it; any other: a cell
  unfoldable pub ref_from : Reference → Option Ref
  ref_from r =
      cond (eqb r.kind kind.number) (some (Ref.number (literal r.extra) r.extra))
      (bind (kind_from r.kind) (λ k. some (Ref.var (Cell.cell k r.id r.prime))))

  unfoldable pub refs_from : List Reference → Option (List Ref)
  refs_from [] = some []
  refs_from (r ∷ rs) = bind (ref_from r) (λ x. bind (refs_from rs) (λ xs. some (x ∷ xs)))

  unfoldable pub step_from : bytes.Step → Option Step
  step_from x = bind (op_from x.op) (λ o. bind (ref_from x.dest) (λ d. bind (refs_from (counted_in x)) (λ rs. some (step o d rs))))

  -- THE STEPS OF RECORDS, where each has a step byte that is known
  unfoldable pub steps_from : List bytes.Step → Option (List Step)
  steps_from [] = some []
  steps_from (x ∷ xs) = bind (step_from x) (λ s. bind (steps_from xs) (λ ss. some (s ∷ ss)))
