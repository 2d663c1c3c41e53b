-- From a node to its operands and back, with no word of the code.
-- Assumes nothing.
use Prim.Native.Nat.{ℕ, suc, ◌+◌, ◌-◌, ◌<◌, ◌≤◌}
use mathlib.Core.Path.{◌≡◌, refl, sym, ◌∙◌, ap, subst}
use mathlib.Core.Bool.{Bool, true, false, cond}
use mathlib.Core.List.{List, []}
use native.Mathlib.Omega.{arith}
use lib.ListN.{length}
use lib.Dec.{eqb, ltb}
use borrow.Author.Tests.{ne_eqb, eqb-true, eqb-false, lt-ltb, le-ltb, ltb-true, ltb-false}
use Rattle.meaning.specs.Trees.{Expr}
use Rattle.meaning.specs.Steps.{StepOp, step_no}
use Rattle.meaning.specs.Emission.{leaf_ref, settled, emit}
use Rattle.kinds.specs.KindBytes as kind
use Rattle.kinds.specs.References.{plain_ref}
use Rattle.frames.specs.declared.node.Node.{Node}
use Rattle.pool.specs.Pool.{node}
use Rattle.pool.specs.Trees.{leaf_of}
use Rattle.pool.specs.Laws.Tabled.{node_at}
use Rattle.starkinfo_codegen.specs.Words.{node_of_words}
use Rattle.starkinfo_codegen.specs.Encoding.{ref_of}
use Rattle.starkinfo_codegen.specs.Operations.{literal, nothing, operation_at}
use Rattle.starkinfo_codegen.specs.Sources.{leaf_by, leaf_in, source_in}
use Rattle.starkinfo_codegen.specs.Counting.{ops, settled-length, settled-result}
use Rattle.starkinfo_codegen.specs.Plans.{Part, under, brought, absent, part_ops, part_steps, part_source, plan-ops}
use Rattle.starkinfo_codegen.specs.Emitting.{Rest, tables_of, pool_of, Pooled, tree_of, part_of, taken, There, CountAsks}
use Rattle.starkinfo_codegen.specs.declared.operation.Operation.{Operation}
use Rattle.starkinfo_codegen.proofs.Leaves.{leaf-is}
use Rattle.starkinfo_codegen.proofs.Planned.{Operand, Planned, Read, part-under, add-children, read}

-- what falls from a node to its operands
abbrev pub rank : ℕ → ℕ
rank i = cond (ltb i 4096) (suc i) 0

rank-node : (i : ℕ) → i < 4096 → rank i ≡ suc i
rank-node i h = rw (lt-ltb i 4096 h)

pub rank_falls : (i c : ℕ) → i < 4096 → Operand i c → rank c < rank i
rank_falls i c h o = rw (rank-node i h) (go (ltb c 4096) refl)
  where
    go : (x : Bool) → ltb c 4096 ≡ x → cond x (suc c) 0 < suc i
    go true e = let l = o.earlier (ltb-true c 4096 e) in omega arith
    go false e = omega arith

module _ (w : List ℕ) (b : Rest) (f : Bool) where
  abbrev T : ℕ → ℕ
  T = taken w b f

  pub taken-node : (i : ℕ) → i < 4096 → T i ≡ ops (tree_of w b f i)
  taken-node i h = ap part_ops (part-under w b f i h)

  pub taken-past : (i : ℕ) → 4096 ≤ i → T i ≡ 0
  unfolding part_of
  taken-past i h = rw (le-ltb i 4096 h) (go (eqb i literal))
    where
      go : (x : Bool) → part_ops (cond x brought absent) ≡ 0
      go true = refl
      go false = refl

  pub steps-past : (row i t : ℕ) → 4096 ≤ i → part_steps row (part_of w b f i) t ≡ []
  unfolding part_of
  steps-past row i t h = rw (le-ltb i 4096 h) (go (eqb i literal))
    where
      go : (x : Bool) → part_steps row (cond x brought absent) t ≡ []
      go true = refl
      go false = refl

  -- as many steps as are counted
  pub part_length : (row t : ℕ) (p : Part) → length (part_steps row p t) ≡ part_ops p
  part_length row t (under e) = settled-length row e t
  part_length row t brought = refl
  part_length row t absent = refl

  byte-some : (o : StepOp) → step_no o ≡ 0 → ⊥
  byte-some StepOp.add e = omega arith
  byte-some StepOp.sub e = omega arith
  byte-some StepOp.mul e = omega arith
  byte-some StepOp.muladd e = omega arith
  byte-some StepOp.copy e = omega arith

  -- ── a node that is read ────────────────────────────────────────────────────
  -- what reading an operation asks
  pub operation-asks :
      (pooled : Pooled w b) (i : ℕ) → i < 4096 → There w b f i → (i < 4096) × ((node_of_words w i).kind ≡ kind.add → ((node_of_words w i).c0 < 4096) × ((node_of_words w i).c1 < 4096))
  operation-asks pooled i few there = (few, λ e. let k = add-children w b pooled i (there few) e in (omega (arith, k.0), omega (arith, k.1)))

  module _ (pooled : Pooled w b) (i : ℕ) (few : i < 4096) (there : There w b f i) (o : Operation) (eo : o ≡ operation_at w f i) where
    is_read : Read w b f i o
    is_read = rw eo (read w b pooled f i (there few))

    pub leaf-tree : o.op ≡ 0 → tree_of w b f i ≡ Expr.leaf i (leaf_of (node (pool_of w b) i))
    leaf-tree z = go is_read
      where
        go : Read w b f i o → tree_of w b f i ≡ Expr.leaf i (leaf_of (node (pool_of w b) i))
        go (Read.leaf e q) = q
        go (Read.does d) = absurd (byte-some d.op (d.byte ∙ z))

    pub leaf-taken : o.op ≡ 0 → T i ≡ 0
    unfolding ops
    leaf-taken z = taken-node i few ∙ ap ops (leaf-tree z)

    pub does : (o.op ≡ 0 → ⊥) → Planned w b f i o
    does n = go is_read
      where
        go : Read w b f i o → Planned w b f i o
        go (Read.leaf e q) = absurd (n e)
        go (Read.does d) = d

    module _ (n : o.op ≡ 0 → ⊥) where
      pub total : T i ≡ T o.a + T o.b + T o.c + 1
      total = taken-node i few ∙ plan-ops (tree_of w b f i) (does n).plans

      pub under-there : (c : ℕ) → Operand i c → There w b f c
      under-there c k l = let e = k.earlier l in let h = there few in omega arith

      pub falls-first : rank o.a < rank i
      falls-first = rank_falls i o.a few (does n).first

      pub falls-second : rank o.b < rank i
      falls-second = rank_falls i o.b few (does n).second

      pub falls-third : rank o.c < rank i
      falls-third = rank_falls i o.c few (does n).third

  -- ── counting ───────────────────────────────────────────────────────────────
  module _ (i : ℕ) (a : CountAsks w b f i) (few : i < 4096) (o : Operation) (eo : o ≡ operation_at w f i) (n : o.op ≡ 0 → ⊥) where
    abbrev D : Planned w b f i o
    D = does a.pool i few a.there o eo n

    sum : T i ≡ T o.a + T o.b + T o.c + 1
    sum = total a.pool i few a.there o eo n

    pub count-first : CountAsks w b f o.a
    count-first = record { pool = a.pool; there = under-there a.pool i few a.there o eo n o.a D.first; few = omega (arith, a.few, sum) }

    pub count-second : CountAsks w b f o.b
    count-second = record { pool = a.pool; there = under-there a.pool i few a.there o eo n o.b D.second; few = omega (arith, a.few, sum) }

    pub count-third : CountAsks w b f o.c
    count-third = record { pool = a.pool; there = under-there a.pool i few a.there o eo n o.c D.third; few = omega (arith, a.few, sum) }

  -- ── the reference to an operand ────────────────────────────────────────────
  module _ (pooled : Pooled w b) (row i t : ℕ) where
    -- a node whose tree takes no step is a leaf
    pub stepless : (c : ℕ) → c < b.node_count → ops (tree_of w b f c) ≡ 0 → tree_of w b f c ≡ Expr.leaf c (leaf_of (node (pool_of w b) c))
    stepless c h z = go (read w b pooled f c h)
      where
        go : Read w b f c (operation_at w f c) → tree_of w b f c ≡ Expr.leaf c (leaf_of (node (pool_of w b) c))
        go (Read.leaf e q) = q
        go (Read.does d) = absurd (omega (arith, plan-ops (tree_of w b f c) d.plans))

    pub leaf_in_lem : (c : ℕ) → c < b.node_count → leaf_in w row c ≡ ref_of (leaf_ref c (leaf_of (node (pool_of w b) c)) row)
    unfolding leaf_by
    leaf_in_lem c h = sym (ap (λ (x : Node). leaf_by x c row) (node_at (tables_of w b) c h)) ∙ leaf-is (node (pool_of w b) c) c row

    abbrev Sources : ℕ → Type 0
    Sources c = source_in w row i c (t + T c) (T c) ≡ part_source row i (part_of w b f c) t

    source-literal : Sources literal
    unfolding source_in part_of
    source-literal = refl

    source-nothing : Sources nothing
    unfolding source_in part_of
    source-nothing = refl

    source-node : (c : ℕ) → c < 4096 → c < b.node_count → Sources c
    unfolding source_in
    source-node c h l =
        rw (ne_eqb c literal (λ e. omega arith), ne_eqb c nothing (λ e. omega arith), part-under w b f c h)
        (go (eqb (ops (tree_of w b f c)) 0) refl)
      where
        e : Expr
        e = tree_of w b f c

        go : (x : Bool) → eqb (ops e) 0 ≡ x → cond x (leaf_in w row c) (plain_ref kind.tmp 0 (t + ops e - 1)) ≡ ref_of (settled (emit e row t)).result
        go true q = leaf_in_lem c l ∙ sym (ap (λ z. ref_of (settled (emit z row t)).result) (stepless c l (eqb-true (ops e) 0 q)))
        go false q = sym (ap ref_of (settled-result row e t (eqb-false (ops e) 0 q)))

    pub source_is : (c : ℕ) → There w b f c → c ≤ nothing → Sources c
    source_is c there k = go (ltb c 4096) (eqb c literal) refl refl
      where
        go : (x y : Bool) → ltb c 4096 ≡ x → eqb c literal ≡ y → Sources c
        go true y p q = let h = ltb-true c 4096 p in source-node c h (there h)
        go false true p q = subst Sources (sym (eqb-true c literal q)) source-literal
        go false false p q =
            let e : c ≡ nothing = omega (arith, k, ltb-false c 4096 p, eqb-false c literal q) in
            subst Sources (sym e) source-nothing
