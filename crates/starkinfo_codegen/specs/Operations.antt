-- What a node computes, as the code reads it off the table: the step, and its operands in order.
-- Assumes nothing: these are definitions.
use Rattle.std.specs.Prelude.{ℕ, ◌≡◌, Option, Some, None, Bool, cond, List, eqb}
use Rattle.meaning.specs.Trees.{Op, OpC}
use Rattle.kinds.specs.KindBytes as kind
use Rattle.kinds.specs.OpBytes as op
use Rattle.pool.specs.Trees.{Class, binary, fused, constant, negation, leafy, class}
use Rattle.starkinfo_codegen.specs.Words.{node_of_words}
use Rattle.starkinfo_codegen.specs.declared.operation.Operation.{Operation}

-- an operand is a node, or one of two numbers that no node has: the literal that the node itself brings, and no operand at all
abbrev pub literal : ℕ
literal = 4096

abbrev pub nothing : ℕ
nothing = 4097

abbrev pub operation : ℕ → ℕ → ℕ → ℕ → Operation
operation o a b c = record { op = o; a = a; b = b; c = c }

-- a step over both children
abbrev pub pair_at : ℕ → List ℕ → ℕ → Operation
pair_at o w i = operation o (node_of_words w i).c0 (node_of_words w i).c1 nothing

-- the product at node m and the operand c
abbrev pub product_at : List ℕ → ℕ → ℕ → Operation
product_at w m c = operation op.muladd (node_of_words w m).c0 (node_of_words w m).c1 c

-- an add of a and b: the first one's product, else the second's, else neither
unfoldable pub fused_of : List ℕ → ℕ → ℕ → Operation
fused_of w a b =
    cond (eqb (node_of_words w a).kind kind.mul) (product_at w a b)
    (cond (eqb (node_of_words w b).kind kind.mul) (product_at w b a) (operation op.add a b nothing))

abbrev pub operation_by : Class → List ℕ → Bool → ℕ → Operation
operation_by (binary Op.add) w f i = cond f (fused_of w (node_of_words w i).c0 (node_of_words w i).c1) (pair_at op.add w i)
operation_by (binary Op.sub) w f i = pair_at op.sub w i
operation_by (binary Op.mul) w f i = pair_at op.mul w i
operation_by fused w f i = operation op.muladd (node_of_words w i).c0 (node_of_words w i).c1 (node_of_words w i).c2
operation_by (constant OpC.addc) w f i = operation op.add (node_of_words w i).c0 literal nothing
operation_by (constant OpC.mulc) w f i = operation op.mul (node_of_words w i).c0 literal nothing
operation_by negation w f i = operation op.sub literal (node_of_words w i).c0 nothing
operation_by leafy w f i = operation 0 nothing nothing nothing

unfoldable pub operation_at : List ℕ → Bool → ℕ → Operation
operation_at w f i = operation_by (class (node_of_words w i).kind) w f i

-- a node's operation, where it has one: a leaf has none
abbrev pub computes : List ℕ → Bool → ℕ → Option Operation → Type 0
computes w f i (Some o) = (o ≡ operation_at w f i) × (o.op ≡ 0 → ⊥)
computes w f i None = (operation_at w f i).op ≡ 0
