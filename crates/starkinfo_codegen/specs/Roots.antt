-- The root of a tree: its own step in a block, and how many steps a block has.
-- Assumes nothing.
use Rattle.std.specs.Prelude.{ℕ, ◌+◌, ◌≤◌, ◌≡◌, Bool, true, false, List, [], ◌∷◌, ◌++◌, length, eqb}
use Rattle.std.proofs.Math.Path.{refl}
use Rattle.std.proofs.Common.{sym, ◌∙◌, ap, arith, length-append, eqb-true}
use Rattle.std.proofs.lemmas.Bool.{eqb-false}
use Rattle.meaning.specs.Trees.{Expr}
use Rattle.meaning.specs.Values.{opc}
use Rattle.meaning.specs.Steps.{Ref, StepOp, step, tmp_ref}
use Rattle.meaning.specs.Emission.{step_op, Own, Emitted, settle, settled, emit, root_step, block_steps}
use Rattle.starkinfo_codegen.specs.Counting.{ops, settled-length}

module _ (r t : ℕ) where
  -- an operation: its own step comes last, and only its destination differs
  pub record Root (e : Expr) : Type 0 where
    pub op : StepOp
    pub sources : List Ref
    pub own : (emit e r t).own ≡ Own.operation op sources

  pub root : (e : Expr) → (ops e ≡ 0 → ⊥) → Root e
  unfolding ops
  root (Expr.leaf n l) h = absurd (h refl)
  root (Expr.bin n o a b) h = record { op = step_op o; sources = _; own = refl }
  root (Expr.muladd n a b c) h = record { op = StepOp.muladd; sources = _; own = refl }
  root (Expr.binc n o a l) h = record { op = step_op (opc o); sources = _; own = refl }
  root (Expr.neg n a) h = record { op = StepOp.sub; sources = _; own = refl }

  module _ (e : Expr) where
    abbrev x : Emitted
    x = emit e r t

    module _ (q : Root e) where
      pub root-settled : (settled x).steps ≡ x.steps ++ (step q.op (tmp_ref x.free) q.sources ∷ [])
      root-settled = ap (λ (o : Own). (settle x.steps o x.free).steps) q.own

      pub root-block : (d : Ref) → block_steps x d ≡ x.steps ++ (step q.op d q.sources ∷ [])
      root-block d = ap (λ (o : Own). x.steps ++ (root_step o d ∷ [])) q.own

      pub root-count : ops e ≡ length x.steps + 1
      root-count = sym (settled-length r e t) ∙ ap length root-settled ∙ length-append x.steps _

    -- a block has as many steps as its tree, but one where that is a leaf
    pub block-count : (d : Ref) → (ops e ≡ 0 → ⊥) → length (block_steps x d) ≡ ops e
    block-count d h = let q = root e h in ap length (root-block q d) ∙ length-append x.steps _ ∙ sym (root-count q)

  pub block-leaf : (e : Expr) (d : Ref) → ops e ≡ 0 → length (block_steps (emit e r t) d) ≡ 1
  unfolding ops
  block-leaf (Expr.leaf n l) d h = refl
  block-leaf (Expr.bin n o a b) d h = absurd (omega arith)
  block-leaf (Expr.muladd n a b c) d h = absurd (omega arith)
  block-leaf (Expr.binc n o a l) d h = absurd (omega arith)
  block-leaf (Expr.neg n a) d h = absurd (omega arith)

  pub block-enough : (e : Expr) (d : Ref) → (ops e ≤ length (block_steps (emit e r t) d)) × (1 ≤ length (block_steps (emit e r t) d))
  block-enough e d = go (eqb (ops e) 0) refl
    where
      go : (b : Bool) → eqb (ops e) 0 ≡ b → (ops e ≤ length (block_steps (emit e r t) d)) × (1 ≤ length (block_steps (emit e r t) d))
      go true q = let z = eqb-true (ops e) 0 q in let k = block-leaf e d z in (omega arith, omega arith)
      go false q = let z = eqb-false (ops e) 0 q in let k = block-count e d z in (omega arith, omega arith)
