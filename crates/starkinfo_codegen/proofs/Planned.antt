-- What the table says of a node is what its tree does: the operation that the code reads is the plan of the tree that is emitted.
-- Assumes nothing.
use Prim.Native.Nat.{ℕ, ◌<◌, ◌≤◌}
use mathlib.Core.Path.{◌≡◌, refl, sym, ◌∙◌, ap, subst}
use mathlib.Core.Bool.{Bool, true, false}
use mathlib.Core.Option.{some}
use mathlib.Core.List.{List, [], ◌∷◌}
use native.Mathlib.Omega.{arith}
use lib.ListN.{length}
use lib.Dec.{eqb}
use borrow.Author.Tests.{eqb-true, eqb-false, lt-ltb}
use Rattle.meaning.specs.Trees.{Lit, Op, OpC, Expr, Each}
use Rattle.meaning.specs.Values.{opc}
use Rattle.meaning.specs.Steps.{StepOp, step_no}
use Rattle.meaning.specs.Emission.{step_op}
use Rattle.meaning.specs.Fusing.{second, first, fuse}
use Rattle.kinds.specs.KindBytes as kind
use Rattle.kinds.specs.OpBytes as op
use Rattle.frames.specs.declared.node.Node.{Node}
use Rattle.pool.specs.Pool.{Pool, node, children}
use Rattle.pool.specs.Trees.{leaf_of, Class, binary, fused, constant, negation, leafy, class, grown, tree}
use Rattle.pool.specs.Laws.Trees.{children_are, tree_is}
use Rattle.pool.specs.Laws.Tabled.{node-count, node_at}
use Rattle.starkinfo_codegen.specs.Words.{node_with, node_of_words}
use Rattle.starkinfo_codegen.specs.Operations.{literal, nothing, operation, fused_of, operation_by, operation_at}
use Rattle.starkinfo_codegen.specs.Plans.{under, brought, absent, plan, plan_of, node_of}
use Rattle.starkinfo_codegen.specs.Emitting.{Rest, tables_of, pool_of, Pooled, tree_of, part_of}
use Rattle.starkinfo_codegen.specs.declared.operation.Operation.{Operation}
use Rattle.starkinfo_codegen.proofs.Fused.{is_product, second-neither, first-not, fuse-product, by-kinds, no-product, spread}
use Rattle.starkinfo_codegen.proofs.Reading.{by-class, fused-first, fused-second, fused-neither}

-- an operand of node i: a node before it, or a number that no node has
pub record Operand (i c : ℕ) : Type 0 where
  pub earlier : c < 4096 → c < i
  pub known : c ≤ nothing

module _ (w : List ℕ) (b : Rest) (f : Bool) where
  abbrev P : Pool
  P = pool_of w b

  -- o is what the tree of node i does
  pub record Planned (i : ℕ) (o : Operation) : Type 0 where
    pub op : StepOp
    pub byte : step_no op ≡ o.op
    pub plans : plan_of (tree_of w b f i) ≡ some (plan op (part_of w b f o.a) (part_of w b f o.b) (part_of w b f o.c))
    pub node : node_of (tree_of w b f i) ≡ i
    pub first : Operand i o.a
    pub second : Operand i o.b
    pub third : Operand i o.c

  pub data Read (i : ℕ) (o : Operation) : Type 0 where
    leaf : o.op ≡ 0 → tree_of w b f i ≡ Expr.leaf i (leaf_of (node P i)) → Read i o
    does : Planned i o → Read i o

  pub part-literal : part_of w b f literal ≡ brought
  unfolding part_of
  part-literal = refl

  pub part-nothing : part_of w b f nothing ≡ absent
  unfolding part_of
  part-nothing = refl

  pub part-under : (c : ℕ) → c < 4096 → part_of w b f c ≡ under (tree_of w b f c)
  unfolding part_of
  part-under c h = rw (lt-ltb c 4096 h)

  literal-known : (i : ℕ) → Operand i literal
  literal-known i = record { earlier = λ h. absurd (omega arith); known = omega arith }

  nothing_known : (i : ℕ) → Operand i nothing
  nothing_known i = record { earlier = λ h. absurd (omega arith); known = omega arith }

  -- ── from a tree to its plan, by the form of the tree ────────────────────────
  module _ (i : ℕ) (few : i < 4096) where
    earlier-known : (c : ℕ) → c < i → Operand i c
    earlier-known c h = record { earlier = λ _. h; known = omega arith }

    two : (o : Op) (m n : ℕ) → m < i → n < i → tree_of w b f i ≡ Expr.bin i o (tree_of w b f m) (tree_of w b f n) → Planned i (operation (step_no (step_op o)) m n nothing)
    two o m n hm hn q =
        record {
          op = step_op o;
          byte = refl;
          plans = ap plan_of q ∙ rw (part-under m (omega arith), part-under n (omega arith), part-nothing);
          node = ap node_of q;
          first = earlier-known m hm;
          second = earlier-known n hn;
          third = nothing_known i;
        }

    three :
        (k m n : ℕ) → k < i → m < i → n < i → tree_of w b f i ≡ Expr.muladd i (tree_of w b f k) (tree_of w b f m) (tree_of w b f n) →
        Planned i (operation op.muladd k m n)
    three k m n hk hm hn q =
        record {
          op = StepOp.muladd;
          byte = refl;
          plans = ap plan_of q ∙ rw (part-under k (omega arith), part-under m (omega arith), part-under n (omega arith));
          node = ap node_of q;
          first = earlier-known k hk;
          second = earlier-known m hm;
          third = earlier-known n hn;
        }

    one :
        (o : OpC) (m : ℕ) (l : Lit) → m < i → tree_of w b f i ≡ Expr.binc i o (tree_of w b f m) l →
        Planned i (operation (step_no (step_op (opc o))) m literal nothing)
    one o m l hm q =
        record {
          op = step_op (opc o);
          byte = refl;
          plans = ap plan_of q ∙ rw (part-under m (omega arith), part-literal, part-nothing);
          node = ap node_of q;
          first = earlier-known m hm;
          second = literal-known i;
          third = nothing_known i;
        }

    minus : (m : ℕ) → m < i → tree_of w b f i ≡ Expr.neg i (tree_of w b f m) → Planned i (operation op.sub literal m nothing)
    minus m hm q =
        record {
          op = StepOp.sub;
          byte = refl;
          plans = ap plan_of q ∙ rw (part-under m (omega arith), part-literal, part-nothing);
          node = ap node_of q;
          first = literal-known i;
          second = earlier-known m hm;
          third = nothing_known i;
        }

-- the children of a node by its class
abbrev kids : Class → Node → List ℕ
kids (binary o) x = x.c0 ∷ x.c1 ∷ []
kids fused x = x.c0 ∷ x.c1 ∷ x.c2 ∷ []
kids (constant o) x = x.c0 ∷ []
kids negation x = x.c0 ∷ []
kids leafy x = []

module _ (w : List ℕ) (b : Rest) (pooled : Pooled w b) where
  abbrev Q : Pool
  Q = pool_of w b

  abbrev at : ℕ → Node
  at n = node_with w b.literals n

  pub inside : (n : ℕ) → n < b.node_count → n < length Q.nodes
  inside n h = subst (λ m. n < m) (sym (node-count (tables_of w b))) h

  module _ (n : ℕ) (h : n < b.node_count) (c : Class) (q : class (node_of_words w n).kind ≡ c) where
    is : node Q n ≡ at n
    is = node_at (tables_of w b) n h

    class-is : class (node Q n).kind ≡ c
    class-is = ap (λ (x : Node). class x.kind) is ∙ q

    -- its tree and its children
    pub grows : tree Q n ≡ grown c (tree Q) n (at n)
    grows = tree_is Q pooled.shaped n (inside n h) ∙ rw (class-is, is)

    pub kids-earlier : Each (λ d. d < n) (kids c (at n))
    kids-earlier = subst (λ (x : Node). Each (λ d. d < n) (kids c x)) is (go c class-is)
      where
        here : Each (λ d. d < n) (children (node Q n))
        here = pooled.shaped.earlier n (inside n h)

        go : (k : Class) → class (node Q n).kind ≡ k → Each (λ d. d < n) (kids k (node Q n))
        go (binary o) e = rw e at (rw (children_are Q pooled.shaped n (inside n h)) at here)
        go fused e = rw e at (rw (children_are Q pooled.shaped n (inside n h)) at here)
        go (constant o) e = rw e at (rw (children_are Q pooled.shaped n (inside n h)) at here)
        go negation e = rw e at (rw (children_are Q pooled.shaped n (inside n h)) at here)
        go leafy e = tt

  -- ── a node, by its class ───────────────────────────────────────────────────
  below : (n : ℕ) → n < b.node_count → n < 4096
  below n h = omega (arith, pooled.few)

  -- where nothing is fused into it
  plain : (f : Bool) (i : ℕ) (h : i < b.node_count) (c : Class) (q : class (node_of_words w i).kind ≡ c) → tree_of w b f i ≡ grown c (tree_of w b f) i (at i) → Read w b f i (operation_by c w false i)
  plain f i h (binary Op.add) q s = let k = kids-earlier i h (binary Op.add) q in Read.does (two w b f i (below i h) Op.add _ _ k.0 k.1.0 s)
  plain f i h (binary Op.sub) q s = let k = kids-earlier i h (binary Op.sub) q in Read.does (two w b f i (below i h) Op.sub _ _ k.0 k.1.0 s)
  plain f i h (binary Op.mul) q s = let k = kids-earlier i h (binary Op.mul) q in Read.does (two w b f i (below i h) Op.mul _ _ k.0 k.1.0 s)
  plain f i h fused q s = let k = kids-earlier i h fused q in Read.does (three w b f i (below i h) _ _ _ k.0 k.1.0 k.1.1.0 s)
  plain f i h (constant OpC.addc) q s = let k = kids-earlier i h (constant OpC.addc) q in Read.does (one w b f i (below i h) OpC.addc _ _ k.0 s)
  plain f i h (constant OpC.mulc) q s = let k = kids-earlier i h (constant OpC.mulc) q in Read.does (one w b f i (below i h) OpC.mulc _ _ k.0 s)
  plain f i h negation q s = let k = kids-earlier i h negation q in Read.does (minus w b f i (below i h) _ k.0 s)
  plain f i h leafy q s = Read.leaf refl (s ∙ ap (λ (x : Node). Expr.leaf i (leaf_of x)) (sym (node_at (tables_of w b) i h)))

  -- ── an add, fused ──────────────────────────────────────────────────────────
  -- the tree of a mul
  product : (n : ℕ) → n < b.node_count → (node_of_words w n).kind ≡ kind.mul → tree_of w b true n ≡ Expr.bin n Op.mul (tree_of w b true (node_of_words w n).c0) (tree_of w b true (node_of_words w n).c1)
  product n h e = ap fuse (grows n h (binary Op.mul) (ap class e))

  -- and of any other node
  other : (n : ℕ) → n < b.node_count → ((node_of_words w n).kind ≡ kind.mul → ⊥) → is_product (tree_of w b true n) ≡ false
  other n h e =
      fuse-product (tree Q n) ∙ ap is_product (grows n h (class (node_of_words w n).kind) refl)
      ∙ no-product (node_of_words w n).kind (tree Q) n (at n) e

  module _ (i : ℕ) (h : i < b.node_count) (e : (node_of_words w i).kind ≡ kind.add) where
    abbrev m : ℕ
    m = (node_of_words w i).c0

    abbrev n : ℕ
    n = (node_of_words w i).c1

    kids-of : Each (λ d. d < i) (m ∷ n ∷ [])
    kids-of = kids-earlier i h (binary Op.add) (ap class e)

    pub add-children : (m < i) × (n < i)
    add-children = (kids-of.0, kids-of.1.0)

    first-there : m < b.node_count
    first-there = omega (arith, kids-of.0)

    second-there : n < b.node_count
    second-there = omega (arith, kids-of.1.0)

    sum : tree_of w b true i ≡ first i (tree_of w b true m) (tree_of w b true n)
    sum = ap fuse (grows i h (binary Op.add) (ap class e))

    -- the children of a product among the children
    kids_under : (c : ℕ) → c < i → (l : c < b.node_count) → (node_of_words w c).kind ≡ kind.mul → ((node_of_words w c).c0 < i) × ((node_of_words w c).c1 < i)
    kids_under c lt l q = let k = kids-earlier c l (binary Op.mul) (ap class q) in (omega (arith, k.0), omega (arith, k.1.0))

    pub fused-add : Planned w b true i (fused_of w m n)
    fused-add = go (eqb (node_of_words w m).kind kind.mul) (eqb (node_of_words w n).kind kind.mul) refl refl
      where
        go : (x y : Bool) → eqb (node_of_words w m).kind kind.mul ≡ x → eqb (node_of_words w n).kind kind.mul ≡ y → Planned w b true i (fused_of w m n)
        go true y p r =
            let q = eqb-true (node_of_words w m).kind kind.mul p in
            let k = kids_under m kids-of.0 first-there q in
            rw (fused-first w m n q)
            (three w b true i (below i h) _ _ _ k.0 k.1 kids-of.1.0 (sum ∙ ap (λ z. first i z (tree_of w b true n)) (product m first-there q)))
        go false true p r =
            let e0 = eqb-false (node_of_words w m).kind kind.mul p in
            let q = eqb-true (node_of_words w n).kind kind.mul r in
            let k = kids_under n kids-of.1.0 second-there q in
            rw (fused-second w m n e0 q)
            (three w b true i (below i h) _ _ _ k.0 k.1 kids-of.0
            (sum ∙ first-not i (tree_of w b true m) (tree_of w b true n) (other m first-there e0) ∙ ap (λ z. second i (tree_of w b true m) z) (product n second-there q)))
        go false false p r =
            let e0 = eqb-false (node_of_words w m).kind kind.mul p in
            let e1 = eqb-false (node_of_words w n).kind kind.mul r in
            rw (fused-neither w m n e0 e1)
            (two w b true i (below i h) Op.add _ _ kids-of.0 kids-of.1.0
            (sum ∙ first-not i (tree_of w b true m) (tree_of w b true n) (other m first-there e0) ∙ second-neither i (tree_of w b true m) (tree_of w b true n) (other n second-there e1)))

  -- an operation that is no add is the same fused
  unfused : (k i : ℕ) → (k ≡ kind.add → ⊥) → operation_by (class k) w true i ≡ operation_by (class k) w false i
  unfused k i h = by-kinds (λ c. operation_by c w true i ≡ operation_by c w false i) k (λ e. absurd (h e)) refl (λ e. refl) refl constants refl refl
    where
      constants : (o : OpC) → operation_by (constant o) w true i ≡ operation_by (constant o) w false i
      constants OpC.addc = refl
      constants OpC.mulc = refl

  -- THE OPERATION THAT THE TABLE SAYS is what the tree does
  pub read : (f : Bool) (i : ℕ) → i < b.node_count → Read w b f i (operation_at w f i)
  read f i h = rw (by-class w f i (class k) refl) (go f (eqb k kind.add) refl)
    where
      k : ℕ
      k = (node_of_words w i).kind

      go : (f x : Bool) → eqb k kind.add ≡ x → Read w b f i (operation_by (class k) w f i)
      go false x p = plain false i h (class k) refl (grows i h (class k) refl)
      go true true p = let e = eqb-true k kind.add p in rw e (Read.does (fused-add i h e))
      go true false p =
          let e = eqb-false k kind.add p in
          rw (unfused k i e) (plain true i h (class k) refl (ap fuse (grows i h (class k) refl) ∙ spread k (tree Q) i (at i) e))
