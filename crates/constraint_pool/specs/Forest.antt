-- THE POOL WITH THE CONSTRAINT STANDS FOR THE EXTENDED FOREST: its old trees are the pool's, and the tree at its last node is the constraint's.
-- Assumes nothing.
use Prim.Native.Nat.{ℕ, zero, suc, ◌+◌, ◌-◌, ◌*◌, ◌/◌, ◌%◌, ◌≤◌, ◌<◌}
use Rattle.std.specs.Prelude.{◌≡◌, eqb}
use Rattle.std.proofs.Math.Path.{refl, ap, subst}
use Rattle.std.proofs.Common.{sym, ◌∙◌, ap₂, add-zero, zero-add}
use Rattle.std.proofs.Math.Option.{some}
use mathlib.Core.List.{List, [], ◌∷◌, ◌++◌, append_assoc}
use native.Mathlib.Omega.{arith}
use Rattle.std.proofs.Math.ListN.{length, length-append}
use Rattle.kinds.specs.KindBytes as kind
use Rattle.meaning.specs.Trees.{Expr, Forest, Each, Op, OpC, RowKind, FlatKind, Leaf, nth}
use Rattle.meaning.specs.Trees as meaning
use Rattle.frames.specs.declared.node.Node.{Node}
use Rattle.frames.specs.declared.rest.Expression.{Expression}
use Rattle.pool.specs.Pool.{Pool, node}
use Rattle.pool.specs.Trees.{leaf_of, literal_of, Class, binary, fused, constant, negation, leafy, class, grown, tree, forest_from, forest}
use Rattle.pool.specs.Shaped.{Shaped}
use Rattle.pool.specs.Laws.Trees.{tree_is, children_are, tree-binary, tree-muladd, tree-constant, tree-neg, leaf-is}
use Rattle.pool.specs.Laws.Forest.{forest-has, forest-at}
use Rattle.search_meaning.specs.Search.{identity_leaf}
use Rattle.constraint_meaning.specs.Tree.{Numbered, number_from, plus, columns_from, minus_column, plus_member, plus_identities, plus_members, constraint_tree, extended}
use Rattle.constraint_meaning.specs.Numbers.{size, number-free, plus-free}
use Rattle.constraint_pool.specs.Nodes.{leaf_node, pair_node, moved, last, copied, scaled, identity_nodes, identities_nodes, member_nodes, body_of, members_nodes, constraint_nodes, with_constraint}
use Rattle.constraint_pool.specs.Copies.{copied-length}
use Rattle.constraint_pool.specs.Lists.{member-length, identities-length}
use Rattle.constraint_pool.specs.Whole.{AllBelow}
use Rattle.constraint_pool.specs.Fine.{Labelled}
use Rattle.constraint_pool.specs.Extended.{at_of, expression_root, node-before, Every, every-left, every-right, every-from, below-head, below-tail, Extends, nodes_count, extended_shaped, body}

-- ---- a tree copied into a pool with its shape

module _ (q : Pool) (shaped : Shaped q) where
  -- these nodes stand from number k on
  abbrev Is : ℕ → Node → Type 0
  Is n x = node q n ≡ x

  abbrev pub Stand : ℕ → List Node → Type 0
  Stand k ns = Every Is k ns

  module _ (n : ℕ) (h : n < length q.nodes) (x : Node) (s : node q n ≡ x) where
    class-at : class (node q n).kind ≡ class x.kind
    class-at = ap (λ y. class y.kind) s

    pub at_leaf : class x.kind ≡ leafy → tree q n ≡ Expr.leaf n (leaf_of x)
    at_leaf c = leaf-is q shaped n h (class-at ∙ c) ∙ ap (λ y. Expr.leaf n (leaf_of y)) s

    pub at_pair : {o : Op} → class x.kind ≡ binary o → tree q n ≡ Expr.bin n o (tree q x.c0) (tree q x.c1)
    at_pair {o} c = tree-binary q shaped n h (class-at ∙ c) ∙ ap (λ y. Expr.bin n o (tree q y.c0) (tree q y.c1)) s

    pub at-three : class x.kind ≡ fused → tree q n ≡ Expr.muladd n (tree q x.c0) (tree q x.c1) (tree q x.c2)
    at-three c = tree-muladd q shaped n h (class-at ∙ c) ∙ ap (λ y. Expr.muladd n (tree q y.c0) (tree q y.c1) (tree q y.c2)) s

    pub at_constant : {o : OpC} → class x.kind ≡ constant o → tree q n ≡ Expr.binc n o (tree q x.c0) (literal_of x)
    at_constant {o} c = tree-constant q shaped n h (class-at ∙ c) ∙ ap (λ y. Expr.binc n o (tree q y.c0) (literal_of y)) s

    pub at-neg : class x.kind ≡ negation → tree q n ≡ Expr.neg n (tree q x.c0)
    at-neg c = tree-neg q shaped n h (class-at ∙ c) ∙ ap (λ y. Expr.neg n (tree q y.c0)) s

  module _ (m : ℕ) (g : ℕ → Node) where
    pub copied-tree :
        (t : Expr) → Labelled m g t → (k : ℕ) → Stand k (copied g k t) → k + size t ≤ length q.nodes → tree q (last k (size t)) ≡ (number_from k t).tree
    copied-tree (Expr.leaf i l) w k s h =
        let e : last k 1 ≡ k = omega arith in
        rw e (at_leaf k (omega arith) (moved (g i) 0 0 0) s.0 w.1 ∙ ap (Expr.leaf k) w.2)
    copied-tree (Expr.bin i o a b) w k s h =
        let A = copied g k a in
        let B = copied g (k + size a) b in
        let x = moved (g i) (last k (size a)) (last (k + size a) (size b)) 0 in
        let r = every-right Is k A (B ++ (x ∷ [])) (k + size a) (rw (copied-length g k a)) s in
        let y = every-right Is (k + size a) B (x ∷ []) (k + size a + size b) (rw (copied-length g (k + size a) b)) r in
        let n = k + size a + size b in
        let e : last k (suc (size a + size b)) ≡ n = omega arith in
        let u = copied-tree a w.2 k (every-left Is k A (B ++ (x ∷ [])) s) (omega arith) in
        let v = copied-tree b w.3 (k + size a) (every-left Is (k + size a) B (x ∷ []) r) (omega arith) in
        let f = number-free a k in
        let d : (number_from (number_from k a).free b).free ≡ n = number-free b (number_from k a).free ∙ rw f in
        let c : tree q n ≡ Expr.bin n o (number_from k a).tree (number_from (k + size a) b).tree = at_pair n (omega arith) x y.0 w.1 ∙ ap₂ (Expr.bin n o) u v in
        ap (tree q) e ∙ c ∙ ap (λ z. Expr.bin n o (number_from k a).tree (number_from z b).tree) (sym f)
        ∙ ap (λ z. Expr.bin z o (number_from k a).tree (number_from (number_from k a).free b).tree) (sym d)
    copied-tree (Expr.muladd i a b c) w k s h =
        let j = k + size a in
        let l = j + size b in
        let n = l + size c in
        let A = copied g k a in
        let B = copied g j b in
        let C = copied g l c in
        let x = moved (g i) (last k (size a)) (last j (size b)) (last l (size c)) in
        let r = every-right Is k A (B ++ (C ++ (x ∷ []))) j (rw (copied-length g k a)) s in
        let y = every-right Is j B (C ++ (x ∷ [])) l (rw (copied-length g j b)) r in
        let z = every-right Is l C (x ∷ []) n (rw (copied-length g l c)) y in
        let e : last k (suc (size a + (size b + size c))) ≡ n = omega arith in
        let u = copied-tree a w.2 k (every-left Is k A (B ++ (C ++ (x ∷ []))) s) (omega arith) in
        let v = copied-tree b w.3 j (every-left Is j B (C ++ (x ∷ [])) r) (omega arith) in
        let t = copied-tree c w.4 l (every-left Is l C (x ∷ []) y) (omega arith) in
        let f : (number_from k a).free ≡ j = number-free a k in
        let d : (number_from j b).free ≡ l = number-free b j in
        let o : (number_from l c).free ≡ n = number-free c l in
        ap (tree q) e ∙ at-three n (omega arith) x z.0 w.1 ∙ rw (u, v, t) (sym (rw (f, d, o)))
    copied-tree (Expr.binc i o a l) w k s h =
        let A = copied g k a in
        let x = moved (g i) (last k (size a)) 0 0 in
        let n = k + size a in
        let y = every-right Is k A (x ∷ []) n (rw (copied-length g k a)) s in
        let e : last k (suc (size a)) ≡ n = omega arith in
        let u = copied-tree a w.3 k (every-left Is k A (x ∷ []) s) (omega arith) in
        let f : (number_from k a).free ≡ n = number-free a k in
        ap (tree q) e ∙ at_constant n (omega arith) x y.0 w.1 ∙ rw (u, w.2) (sym (rw f))
    copied-tree (Expr.neg i a) w k s h =
        let A = copied g k a in
        let x = moved (g i) (last k (size a)) 0 0 in
        let n = k + size a in
        let y = every-right Is k A (x ∷ []) n (rw (copied-length g k a)) s in
        let e : last k (suc (size a)) ≡ n = omega arith in
        let u = copied-tree a w.2 k (every-left Is k A (x ∷ []) s) (omega arith) in
        let f : (number_from k a).free ≡ n = number-free a k in
        ap (tree q) e ∙ at-neg n (omega arith) x y.0 w.1 ∙ rw u (sym (rw f))

  -- ---- what is joined to a tree that stands before n

  module _ (vc n : ℕ) (c : Numbered) (f : c.free ≡ n) (t : tree q (n - 1) ≡ c.tree) where
    scaled-tree : Stand n (scaled vc n) → n + 2 ≤ length q.nodes → tree q (n + 1) ≡ Expr.bin (n + 1) Op.mul (Expr.leaf n (Leaf.flat FlatKind.challenge vc)) c.tree
    scaled-tree s h =
        let y : node q (n + 1) ≡ pair_node kind.mul n (n - 1) = subst (λ k. node q k ≡ pair_node kind.mul n (n - 1)) (let z : suc n ≡ n + 1 = omega arith in z) s.1.0 in
        let a : tree q n ≡ Expr.leaf n (Leaf.flat FlatKind.challenge vc) = at_leaf n (omega arith) (leaf_node kind.challenge vc) s.0 refl in
        at_pair (n + 1) (omega arith) (pair_node kind.mul n (n - 1)) y refl ∙ ap₂ (Expr.bin (n + 1) Op.mul) a t

    joined-tree :
        (B : List Node) (u : Expr) (k : ℕ) → n + 2 + length B ≡ k → length B ≡ size u → (j : ℕ) → Stand n (scaled vc n ++ (B ++ (pair_node kind.add (n + 1) j ∷ [])))
        → tree q j ≡ (number_from (n + 2) u).tree → k + 1 ≤ length q.nodes → tree q k ≡ (plus vc c u).tree
    joined-tree B u k e l j s b h =
        let x = pair_node kind.add (n + 1) j in
        let r = every-right Is n (scaled vc n) (B ++ (x ∷ [])) (n + 2) refl s in
        let y = every-right Is (n + 2) B (x ∷ []) k e r in
        let a = scaled-tree (every-left Is n (scaled vc n) (B ++ (x ∷ [])) s) (omega arith) in
        let d : k ≡ (number_from (n + 2) u).free = omega (arith, number-free u (n + 2)) in
        let w : tree q k ≡ Expr.bin k Op.add (Expr.bin (n + 1) Op.mul (Expr.leaf n (Leaf.flat FlatKind.challenge vc)) c.tree) (number_from (n + 2) u).tree =
        at_pair k (omega arith) x y.0 refl ∙ ap₂ (Expr.bin k Op.add) a b in
        w
        ∙ ap (λ z. Expr.bin z Op.add (Expr.bin (n + 1) Op.mul (Expr.leaf n (Leaf.flat FlatKind.challenge vc)) c.tree) (number_from (n + 2) u).tree) d
        ∙ ap (λ z. Expr.bin (number_from (z + 2) u).free Op.add (Expr.bin (z + 1) Op.mul (Expr.leaf z (Leaf.flat FlatKind.challenge vc)) c.tree) (number_from (z + 2) u).tree) (sym f)

    pub identity-tree : (e : ℕ) → Stand n (identity_nodes vc n e) → n + 4 ≤ length q.nodes → tree q (n + 3) ≡ (plus vc c (identity_leaf e)).tree
    identity-tree e s h =
        let y = every-right Is n (scaled vc n) (leaf_node kind.exp e ∷ pair_node kind.add (n + 1) (n + 2) ∷ []) (n + 2) refl s in
        joined-tree (leaf_node kind.exp e ∷ []) (identity_leaf e) (n + 3) (omega arith) refl (n + 2) s (at_leaf (n + 2) (omega arith) (leaf_node kind.exp e) y.0 refl) (omega arith)

    pub member-tree :
        (m : ℕ) (g : ℕ → Node) (b : Expr) → Labelled m g b → (i : ℕ) → Stand n (member_nodes g vc n b i) → n + (size b + 5) ≤ length q.nodes
        → tree q (n + size b + 4) ≡ (plus vc c (minus_column b i)).tree
    member-tree m g b w i s h =
        let A = copied g (n + 2) b in
        let v = leaf_node kind.cm i in
        let x = pair_node kind.sub (last (n + 2) (size b)) (n + 2 + size b) in
        let y = pair_node kind.add (n + 1) (n + 3 + size b) in
        let B = A ++ (v ∷ (x ∷ [])) in
        let l = copied-length g (n + 2) b in
        let d : length B ≡ size b + 2 = length-append A (v ∷ (x ∷ [])) ∙ (omega arith) in
        let e : B ++ (y ∷ []) ≡ A ++ (v ∷ x ∷ y ∷ []) = append_assoc A (v ∷ (x ∷ [])) (y ∷ []) in
        let k = n + 2 + size b in
        let r = every-right Is n (scaled vc n) (A ++ (v ∷ x ∷ y ∷ [])) (n + 2) refl s in
        let z = every-right Is (n + 2) A (v ∷ x ∷ y ∷ []) k (rw l) r in
        let u = copied-tree m g b w (n + 2) (every-left Is (n + 2) A (v ∷ x ∷ y ∷ []) r) (omega arith) in
        let a : tree q k ≡ Expr.leaf k (Leaf.cell RowKind.cm i 0) = at_leaf k (omega arith) v z.0 refl in
        let p : node q (n + 3 + size b) ≡ x = subst (λ j. node q j ≡ x) (let o : suc k ≡ n + 3 + size b = omega arith in o) z.1.0 in
        let o = (number_from (n + 2) b).free in
        let fr : o ≡ k = number-free b (n + 2) in
        let top : suc o ≡ n + 3 + size b = omega arith in
        let st : Stand n (scaled vc n ++ (B ++ (y ∷ []))) = subst (λ ns. Stand n (scaled vc n ++ ns)) (sym e) s in
        let body : tree q (n + 3 + size b) ≡ (number_from (n + 2) (minus_column b i)).tree =
        at_pair (n + 3 + size b) (omega arith) x p refl ∙ ap₂ (Expr.bin (n + 3 + size b) Op.sub) u a
        ∙ ap (λ j. Expr.bin (n + 3 + size b) Op.sub (number_from (n + 2) b).tree (Expr.leaf j (Leaf.cell RowKind.cm i 0))) (sym fr)
        ∙ ap (λ j. Expr.bin j Op.sub (number_from (n + 2) b).tree (Expr.leaf o (Leaf.cell RowKind.cm i 0))) (sym top) in
        joined-tree B (minus_column b i) (n + size b + 4) (omega arith) (omega arith) (n + 3 + size b) st body (omega arith)

  -- ---- identities and members, one after the other

  -- the tree that ends before n, and the first number after it
  pub record Ends (n : ℕ) (c : Numbered) : Type 0 where
    pub free : c.free ≡ n
    pub tree_is : tree q (n - 1) ≡ c.tree

  module _ (vc : ℕ) where
    pub identities_trees :
        (es : List ℕ) (n : ℕ) (c : Numbered) → Ends n c → Stand n (identities_nodes vc n es) → n + 4 * length es ≤ length q.nodes
        → Ends (n + 4 * length es) (plus_identities vc c es)
    unfolding identities_nodes
    identities_trees [] n c e s h = subst (λ k. Ends k c) (sym (add-zero n)) e
    identities_trees (x ∷ es) n c e s h =
        let I = identity_nodes vc n x in
        let d = plus vc c (identity_leaf x) in
        let a : tree q (n + 3) ≡ d.tree = identity-tree vc n c e.free e.tree_is x (every-left Is n I (identities_nodes vc (n + 4) es) s) (omega arith) in
        let b : d.free ≡ n + 4 = omega (arith, plus-free vc c (identity_leaf x), e.free) in
        let o : n + 4 - 1 ≡ n + 3 = omega arith in
        let z : n + 4 + 4 * length es ≡ n + 4 * suc (length es) = omega arith in
        subst (λ k. Ends k (plus_identities vc d es)) z
        (identities_trees es (n + 4) d (record { free = b; tree_is = ap (tree q) o ∙ a }) (every-right Is n I (identities_nodes vc (n + 4) es) (n + 4) refl s) (omega arith))

    module _ (p : Pool) (m : ℕ) (E : Forest) (lookup : (e : ℕ) → e < m → (y : meaning.Expression) × (nth E e ≡ some y) × (y.tree ≡ body_of p e)) (label : (e : ℕ) → e < m → Labelled m (node p) (body_of p e)) where
      pub members_trees :
          (es : List ℕ) (n i : ℕ) (c : Numbered) → AllBelow m es → Ends n c → Stand n (members_nodes p vc n i es) → n + length (members_nodes p vc n i es) ≤ length q.nodes
          → Ends (n + length (members_nodes p vc n i es)) (plus_members vc E c (columns_from i es))
      unfolding members_nodes
      members_trees [] n i c a e s h = subst (λ k. Ends k c) (sym (add-zero n)) e
      members_trees (x ∷ es) n i c a e s h =
          let l = below-head m x es a in
          let b = body_of p x in
          let y = lookup x l in
          let B = member_nodes (node p) vc n b i in
          let R = members_nodes p vc (n + (size b + 5)) (suc i) es in
          let k = member-length (node p) vc n b i in
          let j = length-append B R in
          let d = plus vc c (minus_column b i) in
          let t : tree q (n + size b + 4) ≡ d.tree = member-tree vc n c e.free e.tree_is m (node p) b (label x l) i (every-left Is n B R s) (omega arith) in
          let f : d.free ≡ n + (size b + 5) = omega (arith, plus-free vc c (minus_column b i), e.free) in
          let o : n + (size b + 5) - 1 ≡ n + size b + 4 = omega arith in
          let w : plus_member vc c (nth E x) i ≡ d = ap (λ v. plus_member vc c v i) y.1 ∙ ap (λ v. plus vc c (minus_column v i)) y.2 in
          let z : n + (size b + 5) + length R ≡ n + length (B ++ R) = omega arith in
          let g = members_trees es (n + (size b + 5)) (suc i) d (below-tail m x es a) (record { free = f; tree_is = ap (tree q) o ∙ t }) (every-right Is n B R (n + (size b + 5)) (omega arith) s) (omega arith) in
          subst (λ v. Ends (n + length (B ++ R)) (plus_members vc E v (columns_from (suc i) es))) (sym w) (subst (λ v. Ends v (plus_members vc E d (columns_from (suc i) es))) z g)

-- ---- the forest

-- trees of the old nodes
module _ (p q : Pool) (ps : Shaped p) (qs : Shaped q) (more : length p.nodes ≤ length q.nodes) (same : (n : ℕ) → n < length p.nodes → node q n ≡ node p n) where
  grown-kept :
      (c : Class) (n : ℕ) → n < length p.nodes → class (node p n).kind ≡ c → ((j : ℕ) → j < n → tree q j ≡ tree p j) →
      grown c (tree q) n (node p n) ≡ grown c (tree p) n (node p n)
  grown-kept (binary o) n h e f =
      let d = rw e at (subst (Each (λ c. c < n)) (children_are p ps n h) (ps.earlier n h)) in
      ap₂ (Expr.bin n o) (f _ d.0) (f _ d.1.0)
  grown-kept fused n h e f =
      let d = rw e at (subst (Each (λ c. c < n)) (children_are p ps n h) (ps.earlier n h)) in
      rw (f _ d.0, f _ d.1.0, f _ d.1.1.0)
  grown-kept (constant o) n h e f =
      let d = rw e at (subst (Each (λ c. c < n)) (children_are p ps n h) (ps.earlier n h)) in
      ap (λ a. Expr.binc n o a (literal_of (node p n))) (f _ d.0)
  grown-kept negation n h e f =
      let d = rw e at (subst (Each (λ c. c < n)) (children_are p ps n h) (ps.earlier n h)) in
      ap (Expr.neg n) (f _ d.0)
  grown-kept leafy n h e f = refl

  kept-below : (b n : ℕ) → n < b → n < length p.nodes → tree q n ≡ tree p n
  kept-below zero n l h = absurd (omega arith)
  kept-below (suc b) n l h =
      tree_is q qs n (omega arith) ∙ ap (λ y. grown (class y.kind) (tree q) n y) (same n h)
      ∙ grown-kept (class (node p n).kind) n h refl (λ j g. kept-below b j (omega arith) (omega arith)) ∙ sym (tree_is p ps n h)

  pub tree-kept : (n : ℕ) → n < length p.nodes → tree q n ≡ tree p n
  tree-kept n h = kept-below (suc n) n (omega arith) h

  forest-kept :
      (xs : List Expression) → ((e : ℕ) → e < length xs → expression_root xs e < length p.nodes) → (y : Expression) → y.flags ≡ 0 →
      forest_from q (xs ++ (y ∷ [])) ≡ extended (forest_from p xs) (tree q y.root)
  forest-kept [] r y z = rw z
  forest-kept (x ∷ xs) r y z =
      let t = tree-kept x.root (r 0 (omega arith)) in
      ap₂ (λ a b. a ∷ b)
      (ap (λ t. record { tree = t; keep = eqb (x.flags % 2) 1; keep2ns = eqb (x.flags / 2 % 2) 1; id_q = eqb (x.flags / 4 % 2) 1 }) t)
      (forest-kept xs (λ e h. r (suc e) (omega arith)) y z)

module _ (p : Pool) (vc i e : ℕ) (es ms : List ℕ) (x : Extends p vc i e es ms) where
  abbrev Q : Pool
  Q = with_constraint p vc i e es ms

  abbrev L : ℕ
  L = length p.nodes

  abbrev ns : List Node
  ns = constraint_nodes p vc i e es ms

  shaped-q : Shaped Q
  shaped-q = extended_shaped p vc i e es ms x

  node-after : (xs ys : List Node) (k : ℕ) → at_of (xs ++ ys) (length xs + k) ≡ at_of ys k
  node-after [] ys k = ap (at_of ys) (zero-add k)
  node-after (y ∷ xs) ys k = ap (at_of (y ∷ (xs ++ ys))) (let z : suc (length xs) + k ≡ suc (length xs + k) = omega arith in z) ∙ node-after xs ys k

  stands : Stand Q shaped-q L ns
  unfolding with_constraint
  stands = every-from (λ n y. node Q n ≡ y) ns L (λ n h. node-after p.nodes ns n)

  old-same : (n : ℕ) → n < L → node Q n ≡ node p n
  unfolding with_constraint
  old-same n h = node-before p.nodes ns n h

  lookup : (k : ℕ) → k < length p.expressions → (y : meaning.Expression) × (nth (forest p) k ≡ some y) × (y.tree ≡ body_of p k)
  lookup k h =
      let y = forest-has p k h in
      (y.0, y.1, (forest-at p k y.0 y.1).1)

  -- THE TREE AT THE LAST NODE is the constraint's
  pub root-tree : tree Q (last L (length ns)) ≡ (constraint_tree vc (forest p) L e es (columns_from i ms)).tree
  unfolding constraint_nodes
  root-tree =
      let I = identities_nodes vc (L + 1) es in
      let K = L + 1 + 4 * length es in
      let R = members_nodes p vc K i ms in
      let size-q = nodes_count p vc i e es ms x in
      let l = identities-length vc (L + 1) es in
      let j = length-append I R in
      let s = subst (λ k. Stand Q shaped-q k (I ++ R)) (let z : suc L ≡ L + 1 = omega arith in z) stands.1 in
      let a : tree Q L ≡ Expr.leaf L (Leaf.exp e 0) = at_leaf Q shaped-q L (omega arith) (leaf_node kind.exp e) stands.0 refl in
      let c = number_from L (identity_leaf e) in
      let o : L + 1 - 1 ≡ L = omega arith in
      let b : Ends Q shaped-q (L + 1) c = record { free = omega arith; tree_is = ap (tree Q) o ∙ a } in
      let f = identities_trees Q shaped-q vc es (L + 1) c b (every-left (λ n y. node Q n ≡ y) (L + 1) I R s) (omega arith) in
      let g = members_trees Q shaped-q vc p (length p.expressions) (forest p) lookup (body p vc i e es ms x) ms K i (plus_identities vc c es) x.members f (every-right (λ n y. node Q n ≡ y) (L + 1) I R K (omega arith) s) (omega arith) in
      let w : last L (suc (length (I ++ R))) ≡ K + length R - 1 = omega arith in
      ap (tree Q) w ∙ g.tree_is

  -- THE FOREST
  pub extended-forest : forest Q ≡ extended (forest p) (constraint_tree vc (forest p) L e es (columns_from i ms)).tree
  unfolding forest with_constraint
  extended-forest =
      forest-kept p Q x.shaped shaped-q (omega (arith, nodes_count p vc i e es ms x)) old-same p.expressions x.shaped.rooted (record { root = last L (length ns); flags = 0 }) refl
      ∙ ap (extended (forest_from p p.expressions)) root-tree
