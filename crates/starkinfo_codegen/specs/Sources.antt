-- References and steps as the code makes them from the table.
-- Assumes nothing: these are definitions.
use Rattle.std.specs.Prelude.{ℕ, ◌+◌, ◌-◌, ◌<◌, ◌≤◌, cond, List, eqb}
use Rattle.kinds.specs.KindBytes as kind
use Rattle.kinds.specs.OpBytes as op
use Rattle.kinds.specs.Range.{within}
use Rattle.kinds.specs.StepOps.{sources_needed}
use Rattle.kinds.specs.References.{plain_ref, number_ref, blank_ref}
use Rattle.kinds.specs.declared.reference.Reference.{Reference}
use Rattle.kinds.specs.declared.step.Step.{Step}
use Rattle.frames.specs.declared.node.Node.{Node}
use Rattle.starkinfo_codegen.specs.Words.{node_of_words}
use Rattle.starkinfo_codegen.specs.Encoding.{no_origin}
use Rattle.starkinfo_codegen.specs.Operations.{literal, nothing}
use Rattle.starkinfo_codegen.specs.declared.operation.Operation.{Operation}

-- leaf x at node n: a number; a kind that a row tells apart; one that has an id; an x kind
unfoldable pub leaf_by : Node → ℕ → ℕ → Reference
leaf_by x n row =
    cond (eqb x.kind kind.number) (number_ref n)
    (cond (within kind.cm kind.q x.kind) (plain_ref x.kind (row + x.next) x.id)
    (cond (within kind.public kind.eval x.kind) (plain_ref x.kind 0 x.id)
    (cond (within kind.x_div_x_sub_xi kind.x_div_x_sub_w_xi x.kind) (plain_ref x.kind 0 0) (plain_ref kind.x 0 0))))

abbrev pub leaf_in : List ℕ → ℕ → ℕ → Reference
leaf_in w row i = leaf_by (node_of_words w i) i row

-- an operand of node i that took so many steps, after which t is free
unfoldable pub source_in : List ℕ → ℕ → ℕ → ℕ → ℕ → ℕ → Reference
source_in w row i operand t taken =
    cond (eqb operand literal) (number_ref i)
    (cond (eqb operand nothing) blank_ref
    (cond (eqb taken 0) (leaf_in w row operand) (plain_ref kind.tmp 0 (t - 1))))

-- what an operand has to be: a node whose row's prime fits a byte, or one of the two numbers that no node has
pub record Operand (w : List ℕ) (row operand : ℕ) : Type 0 where
  pub row_fits : operand < 4096 → row + (node_of_words w operand).next ≤ 255
  pub known : operand ≤ nothing

pub record OwnAsked (w : List ℕ) (row : ℕ) (o : Operation) (t a b c : ℕ) : Type 0 where
  pub first : Operand w row o.a
  pub second : Operand w row o.b
  pub third : Operand w row o.c
  pub fits : t + a + b + c ≤ 65535

-- a step that no node is known for
abbrev pub step_with : ℕ → ℕ → Reference → Reference → Reference → Reference → Step
step_with o n d r0 r1 r2 = record { op = o; count = n; origin = no_origin; dest = d; s0 = r0; s1 = r1; s2 = r2 }

-- the step of node i, from temporary t on, where its operands took so many steps
unfoldable pub own_in : List ℕ → ℕ → ℕ → Operation → ℕ → ℕ → ℕ → ℕ → Step
own_in w row i o t a b c =
    step_with o.op (sources_needed o.op) (plain_ref kind.tmp 0 (t + a + b + c))
    (source_in w row i o.a (t + a) a)
    (source_in w row i o.b (t + a + b) b)
    (source_in w row i o.c (t + a + b + c) c)

-- a copy of one reference into another
abbrev pub copy_step : Reference → Reference → Step
copy_step dest r = step_with op.copy 1 dest r blank_ref blank_ref

-- the same step with another destination
abbrev pub into : Step → Reference → Step
into s d = record { op = s.op; count = s.count; origin = s.origin; dest = d; s0 = s.s0; s1 = s.s1; s2 = s.s2 }
