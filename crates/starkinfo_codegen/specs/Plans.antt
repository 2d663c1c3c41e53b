-- An operation's own step and its operands, in order: one form for every operation, and the steps of a tree by it.
-- Assumes nothing.
use Rattle.std.specs.Prelude.{ℕ, ◌+◌, ◌≡◌, refl, List, [], ◌++◌}
use Rattle.std.proofs.Math.Option.{Option, some, none-ne-some, some-injective}
use Rattle.std.proofs.Common.{append_assoc, arith, add-zero}
use Rattle.meaning.specs.Trees.{Op, Expr}
use Rattle.meaning.specs.Values.{opc}
use Rattle.meaning.specs.Steps.{Step, StepOp, step_no}
use Rattle.meaning.specs.Emission.{settled, emit, step_op}
use Rattle.kinds.specs.KindBytes as kind
use Rattle.kinds.specs.StepOps.{sources_needed}
use Rattle.kinds.specs.References.{plain_ref, number_ref, blank_ref}
use Rattle.kinds.specs.Steps.{step_bytes}
use Rattle.kinds.specs.Range.{within}
use Rattle.kinds.specs.declared.reference.Reference.{Reference}
use Rattle.kinds.specs.declared.step.Step as bytes
use Rattle.starkinfo_codegen.specs.Encoding.{ref_of, encoded, encoded-append, encoded-one, encoded-none}
use Rattle.starkinfo_codegen.specs.Counting.{ops, settled-free}
use Rattle.starkinfo_codegen.specs.Sources.{step_with}

-- an operand: a tree, the operation's own literal, or none
pub data Part : Type 0 where
  under : Expr → Part
  brought absent : Part

pub record Plan : Type 0 where
  pub op : StepOp
  pub first : Part
  pub second : Part
  pub third : Part

abbrev pub plan : StepOp → Part → Part → Part → Plan
plan o a b c = record { op = o; first = a; second = b; third = c }

-- addc is an add with its literal second, mulc a mul likewise, neg a sub with its literal first
abbrev pub plan_of : Expr → Option Plan
plan_of (Expr.leaf n l) = Option.none
plan_of (Expr.bin n o a b) = some (plan (step_op o) (under a) (under b) absent)
plan_of (Expr.muladd n a b c) = some (plan StepOp.muladd (under a) (under b) (under c))
plan_of (Expr.binc n o a l) = some (plan (step_op (opc o)) (under a) brought absent)
plan_of (Expr.neg n a) = some (plan StepOp.sub brought (under a) absent)

abbrev pub node_of : Expr → ℕ
node_of (Expr.leaf n l) = n
node_of (Expr.bin n o a b) = n
node_of (Expr.muladd n a b c) = n
node_of (Expr.binc n o a l) = n
node_of (Expr.neg n a) = n

abbrev pub part_ops : Part → ℕ
part_ops (under e) = ops e
part_ops brought = 0
part_ops absent = 0

module _ (r : ℕ) where
  -- the steps of an operand from temporary t on
  abbrev pub part_steps : Part → ℕ → List Step
  part_steps (under e) t = (settled (emit e r t)).steps
  part_steps brought t = []
  part_steps absent t = []

  -- the reference to it, for an operation at node n
  abbrev pub part_source : ℕ → Part → ℕ → Reference
  part_source n (under e) t = ref_of (settled (emit e r t)).result
  part_source n brought t = number_ref n
  part_source n absent t = blank_ref

  -- an operation's own step after those of its operands
  abbrev pub plan_step : ℕ → Plan → ℕ → bytes.Step
  plan_step n q t =
      let a = part_ops q.first in
      let b = part_ops q.second in
      let c = part_ops q.third in
      step_with (step_no q.op) (sources_needed (step_no q.op)) (plain_ref kind.tmp 0 (t + a + b + c))
      (part_source n q.first t)
      (part_source n q.second (t + a))
      (part_source n q.third (t + a + b))

  abbrev pub plan_bytes : ℕ → Plan → ℕ → List ℕ
  plan_bytes n q t =
      let a = part_ops q.first in
      let b = part_ops q.second in
      encoded (part_steps q.first t) ++ (encoded (part_steps q.second (t + a)) ++ (encoded (part_steps q.third (t + a + b)) ++ step_bytes (plan_step n q t)))

-- how many steps an operation takes: those of its operands and one
pub plan-ops : (e : Expr) {q : Plan} → plan_of e ≡ some q → ops e ≡ part_ops q.first + part_ops q.second + part_ops q.third + 1
unfolding ops
plan-ops (Expr.leaf n l) {q} h = absurd (none-ne-some q h)
plan-ops (Expr.bin n o a b) {q} h = rw (← some-injective _ q h) (omega arith)
plan-ops (Expr.muladd n a b c) {q} h = rw (← some-injective _ q h) (omega arith)
plan-ops (Expr.binc n o a l) {q} h = rw (← some-injective _ q h) (omega arith)
plan-ops (Expr.neg n a) {q} h = rw (← some-injective _ q h) (omega arith)

pair-needed : (o : Op) → sources_needed (step_no (step_op o)) ≡ 2
unfolding sources_needed within
pair-needed Op.add = refl
pair-needed Op.sub = refl
pair-needed Op.mul = refl

fixed-needed : (sources_needed (step_no StepOp.muladd) ≡ 3) × (sources_needed (step_no StepOp.sub) ≡ 2)
unfolding sources_needed within
fixed-needed = (refl, refl)

-- THE BYTES OF AN OPERATION: those of its operands in order, then its own step
pub plan-bytes : (r : ℕ) (e : Expr) {q : Plan} (t : ℕ) → plan_of e ≡ some q → encoded (settled (emit e r t)).steps ≡ plan_bytes r (node_of e) q t
plan-bytes r (Expr.leaf n l) {q} t h = absurd (none-ne-some q h)
plan-bytes r (Expr.bin n o a b) {q} t h =
    rw (← some-injective _ q h)
    (simp (settled-free r a t, settled-free r b (t + ops a), encoded-append, encoded-one, encoded-none, append_assoc, pair-needed, add-zero))
plan-bytes r (Expr.muladd n a b c) {q} t h =
    rw (← some-injective _ q h)
    (simp (settled-free r a t, settled-free r b (t + ops a), settled-free r c (t + ops a + ops b), encoded-append, encoded-one, append_assoc, fixed-needed.0))
plan-bytes r (Expr.binc n o a l) {q} t h =
    rw (← some-injective _ q h) (simp (settled-free r a t, encoded-append, encoded-one, encoded-none, append_assoc, pair-needed, add-zero))
plan-bytes r (Expr.neg n a) {q} t h =
    rw (← some-injective _ q h) (simp (settled-free r a t, encoded-append, encoded-one, encoded-none, append_assoc, fixed-needed.1, add-zero))
