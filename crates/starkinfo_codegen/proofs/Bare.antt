-- A node by its child count: what its class has, and a node without children is a leaf. Over plain variables.
-- Assumes nothing.
use Prim.Native.Nat.{ℕ, ◌<◌}
use mathlib.Core.Path.{◌≡◌, refl, sym, ◌∙◌, ap}
use mathlib.Core.Bool.{Bool}
use mathlib.Core.List.{List}
use native.Mathlib.Omega.{arith}
use Rattle.kinds.specs.Kinds.{child_count}
use Rattle.frames.specs.declared.node.Node.{Node}
use Rattle.pool.specs.Trees.{Class, binary, fused, constant, negation, leafy, class}
use Rattle.pool.specs.Laws.Trees.{arity, arity-is}
use Rattle.pool.specs.Laws.Tabled.{node_at}
use Rattle.starkinfo_codegen.specs.Words.{node_of_words}
use Rattle.starkinfo_codegen.specs.Operations.{operation_at}
use Rattle.starkinfo_codegen.specs.Emitting.{Rest, tables_of, Pooled}
use Rattle.starkinfo_codegen.specs.declared.operation.Operation.{Operation}
use Rattle.starkinfo_codegen.proofs.Reading.{by-class}
use Rattle.starkinfo_codegen.proofs.Planned.{inside}

pub counted : (w : List ℕ) (b : Rest) → Pooled w b → (i : ℕ) → i < b.node_count → (c : Class) → class (node_of_words w i).kind ≡ c → (node_of_words w i).count ≡ arity c
counted w b pooled i here c q =
    let is = node_at (tables_of w b) i here in
    sym (ap (λ (z : Node). z.count) is)
    ∙ pooled.shaped.counts i (inside w b pooled i here)
    ∙ ap (λ (z : Node). child_count z.kind) is
    ∙ sym (arity-is (node_of_words w i).kind)
    ∙ ap arity q

pub bare : (w : List ℕ) (b : Rest) → Pooled w b → (i : ℕ) → i < b.node_count → (node_of_words w i).count ≡ 0 → class (node_of_words w i).kind ≡ leafy
bare w b pooled i here z = go (class (node_of_words w i).kind) refl
  where
    go : (c : Class) → class (node_of_words w i).kind ≡ c → class (node_of_words w i).kind ≡ leafy
    go (binary o) q = let e = counted w b pooled i here (binary o) q in absurd (omega arith)
    go fused q = let e = counted w b pooled i here fused q in absurd (omega arith)
    go (constant o) q = let e = counted w b pooled i here (constant o) q in absurd (omega arith)
    go negation q = let e = counted w b pooled i here negation q in absurd (omega arith)
    go leafy q = q

pub bare-op : (w : List ℕ) (b : Rest) (f : Bool) → Pooled w b → (i : ℕ) → i < b.node_count → (node_of_words w i).count ≡ 0 → (operation_at w f i).op ≡ 0
bare-op w b f pooled i here z = ap (λ (o : Operation). o.op) (by-class w f i leafy (bare w b pooled i here z))
