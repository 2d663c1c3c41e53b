-- The leaves of a node by its child count: those of its children, in order. Over plain variables.
-- Assumes nothing.
use Prim.Native.Nat.{ℕ, ◌+◌, ◌<◌}
use mathlib.Core.Path.{◌≡◌, refl, sym, ◌∙◌, ap, ap₂}
use mathlib.Core.Bool.{Bool, true, false, cond}
use mathlib.Core.List.{List, [], ◌∷◌, ◌++◌, append-nil}
use native.Mathlib.Omega.{arith}
use lib.Dec.{eqb, ltb}
use borrow.Author.Tests.{lt-ltb}
use Rattle.meaning.specs.Trees.{Leaf, Placed, ◌at◌, leaves, Each}
use Rattle.meaning.specs.Refusals.{done}
use Rattle.meaning.specs.Order.{in_rows, own}
use Rattle.meaning.proofs.Laws.Jobs.{InRows}
use Rattle.kinds.specs.KindBytes as kind
use Rattle.frames.specs.declared.node.Node.{Node}
use Rattle.frames.specs.Tables.{node_in}
use Rattle.pool.specs.Trees.{leaf_of, Class, binary, fused, constant, negation, leafy, class, grown, tree}
use Rattle.pool.specs.Laws.Trees.{arity}
use Rattle.starkinfo_codegen.specs.Words.{node_of_words}
use Rattle.starkinfo_codegen.specs.Emitting.{Rest, pool_of, Pooled}
use Rattle.starkinfo_codegen.specs.Ordering.{leaves_of}
use Rattle.starkinfo_codegen.proofs.Planned.{grows, kids-earlier}
use Rattle.starkinfo_codegen.proofs.Bare.{counted, bare}
use Rattle.starkinfo_codegen.proofs.Outs.{node-leaves}

module _ (w : List ℕ) (b : Rest) (pooled : Pooled w b) (i : ℕ) (here : i < b.node_count) where
  abbrev L : ℕ → List Placed
  L c = leaves_of w b false c

  abbrev x : Node
  x = node_of_words w i

  abbrev T : ℕ → List Placed
  T c = leaves (tree (pool_of w b) c)

  has : (c : Class) → class x.kind ≡ c → x.count ≡ arity c
  has = counted w b pooled i here

  few : i < 4096
  few = omega (arith, pooled.few)

  by-tree : (c : Class) → class x.kind ≡ c → L i ≡ leaves (grown c (tree (pool_of w b)) i (node_in w b.literals i))
  by-tree c q = node-leaves w b false i few ∙ ap leaves (grows w b pooled i here c q)

  under : (c : ℕ) → c < i → T c ≡ L c
  under c h = sym (node-leaves w b false c (omega (arith, few)))

  -- ── a leaf ─────────────────────────────────────────────────────────────────
  pub lone : x.count ≡ 0 → L i ≡ (leaf_of (node_in w b.literals i) at i) ∷ []
  lone z = by-tree leafy (bare w b pooled i here z)

  -- ── an operation ───────────────────────────────────────────────────────────
  -- its first child, its first two, all three
  pub record One : Type 0 where
    pub first : x.c0 < i
    pub rest : List Placed
    pub is : L i ≡ L x.c0 ++ rest

  pub record Two : Type 0 where
    pub second : x.c1 < i
    pub rest : List Placed
    pub is : L i ≡ L x.c0 ++ (L x.c1 ++ rest)

  pub record Three : Type 0 where
    pub third : x.c2 < i
    pub is : L i ≡ L x.c0 ++ (L x.c1 ++ L x.c2)

  pair : (A B : List Placed) {c d : ℕ} → c < i → d < i → A ≡ T c → B ≡ T d → A ++ B ≡ L c ++ L d
  pair A B {c} {d} h g p q = ap₂ ◌++◌ (p ∙ under c h) (q ∙ under d g)

  pub one : (x.count ≡ 0 → ⊥) → One
  one n = go (class x.kind) refl
    where
      go : (c : Class) → class x.kind ≡ c → One
      go (binary o) q =
          let k = kids-earlier w b pooled i here (binary o) q in
          record { first = k.0; rest = L x.c1; is = by-tree (binary o) q ∙ pair _ _ k.0 k.1.0 refl refl }
      go fused q =
          let k = kids-earlier w b pooled i here fused q in
          record { first = k.0; rest = T x.c1 ++ T x.c2; is = by-tree fused q ∙ ap (λ z. z ++ (T x.c1 ++ T x.c2)) (under x.c0 k.0) }
      go (constant o) q =
          let k = kids-earlier w b pooled i here (constant o) q in
          record { first = k.0; rest = []; is = by-tree (constant o) q ∙ under x.c0 k.0 ∙ sym (append-nil (L x.c0)) }
      go negation q =
          let k = kids-earlier w b pooled i here negation q in
          record { first = k.0; rest = []; is = by-tree negation q ∙ under x.c0 k.0 ∙ sym (append-nil (L x.c0)) }
      go leafy q = absurd (n (has leafy q))

  pub only_one : x.count ≡ 1 → L i ≡ L x.c0
  only_one z = go (class x.kind) refl
    where
      go : (c : Class) → class x.kind ≡ c → L i ≡ L x.c0
      go (binary o) q = let e = has (binary o) q in absurd (omega arith)
      go fused q = let e = has fused q in absurd (omega arith)
      go (constant o) q = by-tree (constant o) q ∙ under x.c0 (kids-earlier w b pooled i here (constant o) q).0
      go negation q = by-tree negation q ∙ under x.c0 (kids-earlier w b pooled i here negation q).0
      go leafy q = let e = has leafy q in absurd (omega arith)

  pub two : (x.count ≡ 0 → ⊥) → (x.count ≡ 1 → ⊥) → Two
  two n m = go (class x.kind) refl
    where
      go : (c : Class) → class x.kind ≡ c → Two
      go (binary o) q =
          let k = kids-earlier w b pooled i here (binary o) q in
          record {
            second = k.1.0;
            rest = [];
            is = by-tree (binary o) q ∙ pair _ _ k.0 k.1.0 refl refl ∙ ap (λ z. L x.c0 ++ z) (sym (append-nil (L x.c1)));
          }
      go fused q =
          let k = kids-earlier w b pooled i here fused q in
          record {
            second = k.1.0;
            rest = L x.c2;
            is = by-tree fused q ∙ ap₂ ◌++◌ (under x.c0 k.0) (pair _ _ k.1.0 k.1.1.0 refl refl);
          }
      go (constant o) q = absurd (m (has (constant o) q))
      go negation q = absurd (m (has negation q))
      go leafy q = absurd (n (has leafy q))

  pub only_two : x.count ≡ 2 → L i ≡ L x.c0 ++ L x.c1
  only_two z = go (class x.kind) refl
    where
      go : (c : Class) → class x.kind ≡ c → L i ≡ L x.c0 ++ L x.c1
      go (binary o) q = let k = kids-earlier w b pooled i here (binary o) q in by-tree (binary o) q ∙ pair _ _ k.0 k.1.0 refl refl
      go fused q = let e = has fused q in absurd (omega arith)
      go (constant o) q = let e = has (constant o) q in absurd (omega arith)
      go negation q = let e = has negation q in absurd (omega arith)
      go leafy q = let e = has leafy q in absurd (omega arith)

  pub three : (x.count ≡ 0 → ⊥) → (x.count ≡ 1 → ⊥) → (x.count ≡ 2 → ⊥) → Three
  three n m l = go (class x.kind) refl
    where
      go : (c : Class) → class x.kind ≡ c → Three
      go (binary o) q = absurd (l (has (binary o) q))
      go fused q =
          let k = kids-earlier w b pooled i here fused q in
          record { third = k.1.1.0; is = by-tree fused q ∙ ap₂ ◌++◌ (under x.c0 k.0) (pair _ _ k.1.0 k.1.1.0 refl refl) }
      go (constant o) q = absurd (m (has (constant o) q))
      go negation q = absurd (m (has negation q))
      go leafy q = absurd (n (has leafy q))

-- ── rows ─────────────────────────────────────────────────────────────────────
-- what is of either is of the chosen
either : (Q : Leaf → Type 0) (c : Bool) (k l : Leaf) → Q k → Q l → Q (cond c k l)
either Q true k l f g = f
either Q false k l f g = g

-- a leaf of any kind reads a row that is there, where its next leads to one
pub in_rows_lem : (x : Node) (row : ℕ) → row + x.next < 2 → in_rows 2 (leaf_of x) row ≡ true
in_rows_lem x row h =
    either Q (eqb x.kind kind.cm) _ _ z
    (either Q (eqb x.kind kind.const) _ _ z
    (either Q (eqb x.kind kind.exp) _ _ z
    (either Q (eqb x.kind kind.q) _ _ z
    (either Q (eqb x.kind kind.number) _ _ refl
    (either Q (eqb x.kind kind.public) _ _ refl
    (either Q (eqb x.kind kind.challenge) _ _ refl
    (either Q (eqb x.kind kind.eval) _ _ refl
    (either Q (eqb x.kind kind.x_div_x_sub_xi) _ _ refl
    (either Q (eqb x.kind kind.x_div_x_sub_w_xi) _ _ refl refl)))))))))
  where
    z : ltb (row + x.next) 2 ≡ true
    z = lt-ltb (row + x.next) 2 h

    Q : Leaf → Type 0
    Q l = in_rows 2 l row ≡ true

pub own-done : (ls : List Placed) (r : ℕ) → Each (InRows 2 r) ls → own 2 ls r ≡ done tt
own-done [] r h = refl
own-done ((l at n) ∷ ls) r h = rw h.0 (own-done ls r h.1)
