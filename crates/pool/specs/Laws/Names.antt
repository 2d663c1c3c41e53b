-- The bytes that `meaning` gives its kinds and steps are those that `kinds` names, and a step needs as many sources in both.
-- Assumes nothing.
use Rattle.std.specs.Prelude.{◌≡◌, refl, ℕ}
use Rattle.kinds.specs.KindBytes as kind
use Rattle.kinds.specs.OpBytes as op
use Rattle.kinds.specs.StepOps.{sources_needed}
use Rattle.kinds.specs.Range.{within}
use Rattle.meaning.specs.Trees.{RowKind, FlatKind, XKind}
use Rattle.meaning.specs.Steps.{BareKind, Kind, kind_no, StepOp, step_no}
use Rattle.meaning.specs.Demand3.{needs}

abbrev kind_byte : Kind → ℕ
kind_byte (Kind.row RowKind.cm) = kind.cm
kind_byte (Kind.row RowKind.const) = kind.const
kind_byte (Kind.row RowKind.q) = kind.q
kind_byte (Kind.flat FlatKind.public) = kind.public
kind_byte (Kind.flat FlatKind.challenge) = kind.challenge
kind_byte (Kind.flat FlatKind.eval) = kind.eval
kind_byte (Kind.x XKind.x_div_x_sub_xi) = kind.x_div_x_sub_xi
kind_byte (Kind.x XKind.x_div_x_sub_w_xi) = kind.x_div_x_sub_w_xi
kind_byte (Kind.x XKind.plain_x) = kind.x
kind_byte Kind.exp = kind.exp
kind_byte Kind.tmp = kind.tmp
kind_byte Kind.f = kind.f
kind_byte Kind.tmp_exp = kind.tmp_exp
kind_byte (Kind.bare BareKind.Zi) = kind.Zi
kind_byte (Kind.bare BareKind.tree1) = kind.tree1
kind_byte (Kind.bare BareKind.tree2) = kind.tree2
kind_byte (Kind.bare BareKind.tree3) = kind.tree3
kind_byte (Kind.bare BareKind.tree4) = kind.tree4
kind_byte (Kind.bare BareKind.Z) = kind.Z

pub kind-bytes : (k : Kind) → kind_no k ≡ kind_byte k
kind-bytes (Kind.row RowKind.cm) = refl
kind-bytes (Kind.row RowKind.const) = refl
kind-bytes (Kind.row RowKind.q) = refl
kind-bytes (Kind.flat FlatKind.public) = refl
kind-bytes (Kind.flat FlatKind.challenge) = refl
kind-bytes (Kind.flat FlatKind.eval) = refl
kind-bytes (Kind.x XKind.x_div_x_sub_xi) = refl
kind-bytes (Kind.x XKind.x_div_x_sub_w_xi) = refl
kind-bytes (Kind.x XKind.plain_x) = refl
kind-bytes Kind.exp = refl
kind-bytes Kind.tmp = refl
kind-bytes Kind.f = refl
kind-bytes Kind.tmp_exp = refl
kind-bytes (Kind.bare BareKind.Zi) = refl
kind-bytes (Kind.bare BareKind.tree1) = refl
kind-bytes (Kind.bare BareKind.tree2) = refl
kind-bytes (Kind.bare BareKind.tree3) = refl
kind-bytes (Kind.bare BareKind.tree4) = refl
kind-bytes (Kind.bare BareKind.Z) = refl

abbrev op_byte : StepOp → ℕ
op_byte StepOp.add = op.add
op_byte StepOp.sub = op.sub
op_byte StepOp.mul = op.mul
op_byte StepOp.muladd = op.muladd
op_byte StepOp.copy = op.copy

pub step-bytes : (o : StepOp) → step_no o ≡ op_byte o
step-bytes StepOp.add = refl
step-bytes StepOp.sub = refl
step-bytes StepOp.mul = refl
step-bytes StepOp.muladd = refl
step-bytes StepOp.copy = refl

pub sources-agree : (o : StepOp) → needs o ≡ sources_needed (step_no o)
unfolding sources_needed within
sources-agree StepOp.add = refl
sources-agree StepOp.sub = refl
sources-agree StepOp.mul = refl
sources-agree StepOp.muladd = refl
sources-agree StepOp.copy = refl
