-- Laws of dimensions: an expression's dimension is that of its tree, once it has a rank; and a tree's by the class of its node.
-- Assumes nothing.
use Rattle.std.specs.Prelude.{ℕ, zero, suc, ◌<◌, max, ◌≡◌, refl, List, ◌++◌}
use Rattle.std.proofs.Common.{ap, arith}
use Rattle.std.proofs.Math.Option.{Option, none, some}
use Rattle.std.proofs.Math.ListN.{length}
use Rattle.meaning.specs.Trees.{RowKind, FlatKind, XKind, Leaf, Expr, nth, Placed, ◌at◌, leaves, Each}
use Rattle.meaning.proofs.Laws.Tests.{each_left, each_right}
use Rattle.frames.specs.declared.node.Node.{Node}
use Rattle.pool.specs.Pool.{Pool, root_of}
use Rattle.pool.specs.Trees.{Class, binary, fused, constant, negation, leafy, grown, tree}
use Rattle.pool.specs.Admission.{leads_to, Edge, Ranked}
use Rattle.pool.specs.Laws.Members.{each_member}
use Rattle.pool.specs.Laws.Trees.{arity}
use Rattle.exp_dims.specs.Dimension.{through, leaf_dim, tree_dim, dim_below, exp_dim}

module _ (dims table : List ℕ) where
  -- two ways to give expressions a dimension agree on those that a leaf leads to
  abbrev pub Agree : (ℕ → ℕ) → (ℕ → ℕ) → Placed → Type 0
  Agree f g w = (u : ℕ) → leads_to table w ≡ some u → f u ≡ g u

  leaf-same : (f g : ℕ → ℕ) (l : Leaf) (n : ℕ) → Agree f g (l at n) → leaf_dim dims table f l ≡ leaf_dim dims table g l
  leaf-same f g (Leaf.cell RowKind.cm i a) n h = refl
  leaf-same f g (Leaf.cell RowKind.const i a) n h = refl
  leaf-same f g (Leaf.cell RowKind.q i a) n h = go (nth table i) h
    where
      go : (o : Option ℕ) → ((u : ℕ) → o ≡ some u → f u ≡ g u) → through dims table f o ≡ through dims table g o
      go none h = refl
      go (some u) h = h u refl
  leaf-same f g (Leaf.exp i a) n h = h i refl
  leaf-same f g (Leaf.number l) n h = refl
  leaf-same f g (Leaf.flat FlatKind.public i) n h = refl
  leaf-same f g (Leaf.flat FlatKind.challenge i) n h = refl
  leaf-same f g (Leaf.flat FlatKind.eval i) n h = refl
  leaf-same f g (Leaf.x XKind.x_div_x_sub_xi) n h = refl
  leaf-same f g (Leaf.x XKind.x_div_x_sub_w_xi) n h = refl
  leaf-same f g (Leaf.x XKind.plain_x) n h = refl

  -- and so a tree has one dimension by both
  pub tree-same : (f g : ℕ → ℕ) (t : Expr) → Each (Agree f g) (leaves t) → tree_dim dims table f t ≡ tree_dim dims table g t
  tree-same f g (Expr.leaf n l) h = leaf-same f g l n h.0
  tree-same f g (Expr.bin n o a b) h =
      rw (tree-same f g a (each_left (Agree f g) (leaves a) (leaves b) h), tree-same f g b (each_right (Agree f g) (leaves a) (leaves b) h))
  tree-same f g (Expr.muladd n a b c) h =
      let k = each_right (Agree f g) (leaves a) (leaves b ++ leaves c) h in
      rw (
        tree-same f g a (each_left (Agree f g) (leaves a) (leaves b ++ leaves c) h),
        tree-same f g b (each_left (Agree f g) (leaves b) (leaves c) k),
        tree-same f g c (each_right (Agree f g) (leaves b) (leaves c) k),
      )
  tree-same f g (Expr.binc n o a l) h = ap (max 1) (tree-same f g a h)
  tree-same f g (Expr.neg n a) h = ap (max 1) (tree-same f g a h)

  -- ── levels ─────────────────────────────────────────────────────────────────
  module _ (p : Pool) (rank : ℕ → ℕ) (ranked : Ranked p table rank) (inside : (e u : ℕ) → Edge p table e u → u < length p.expressions) where
    abbrev below : ℕ → ℕ → ℕ
    below = dim_below dims table p

    -- any two numbers of levels agree, where both suffice
    levels : (k m e : ℕ) → e < length p.expressions → rank e < k → rank e < m → below k e ≡ below m e
    levels zero m e h a b = absurd (omega arith)
    levels (suc k) zero e h a b = absurd (omega arith)
    levels (suc k) (suc m) e h a b =
        tree-same (below k) (below m) (tree p (root_of p e))
        (each_member (Agree (below k) (below m)) (leaves (tree p (root_of p e)))
        (λ w s u q.
        let d : Edge p table e u = record { source = h; leaf = w; stands = s; leads = q } in
        let r = ranked.falls e u d in
        levels k m u (inside e u d) (omega arith) (omega arith)))

    -- THE LAW OF DIMENSIONS: an expression's is its tree's, by those of the others
    pub exp-is : (e : ℕ) → e < length p.expressions → exp_dim dims table p e ≡ tree_dim dims table (exp_dim dims table p) (tree p (root_of p e))
    unfolding exp_dim
    exp-is e h =
        let n = length p.expressions in
        let r : rank e < n = ranked.below e h in
        levels n (suc n) e h r (omega arith)

  -- ── a tree by the class of its node ────────────────────────────────────────
  module _ (f : ℕ → ℕ) (T : ℕ → Expr) (n : ℕ) (x : Node) where
    abbrev A : ℕ
    A = tree_dim dims table f (T x.c0)

    abbrev B : ℕ
    B = tree_dim dims table f (T x.c1)

    abbrev C : ℕ
    C = tree_dim dims table f (T x.c2)

    pub grown-one : (c : Class) → arity c ≡ 1 → tree_dim dims table f (grown c T n x) ≡ max 1 A
    grown-one (binary o) h = absurd (omega (arith, h))
    grown-one fused h = absurd (omega (arith, h))
    grown-one (constant o) h = refl
    grown-one negation h = refl
    grown-one leafy h = absurd (omega (arith, h))

    pub grown-two : (c : Class) → arity c ≡ 2 → tree_dim dims table f (grown c T n x) ≡ max (max 1 A) B
    grown-two (binary o) h = refl
    grown-two fused h = absurd (omega (arith, h))
    grown-two (constant o) h = absurd (omega (arith, h))
    grown-two negation h = absurd (omega (arith, h))
    grown-two leafy h = absurd (omega (arith, h))

    pub grown-three : (c : Class) → arity c ≡ 3 → tree_dim dims table f (grown c T n x) ≡ max (max (max 1 A) B) C
    grown-three (binary o) h = absurd (omega (arith, h))
    grown-three fused h = refl
    grown-three (constant o) h = absurd (omega (arith, h))
    grown-three negation h = absurd (omega (arith, h))
    grown-three leafy h = absurd (omega (arith, h))
