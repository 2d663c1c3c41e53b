-- The dimension of a node's tree, by the node: a leaf that leads nowhere, one that leads to an expression, an operation's children one after another.
-- Assumes nothing.
use Prim.Native.Nat.{ℕ, ◌+◌, ◌-◌, ◌*◌, ◌<◌, ◌≤◌, max}
use mathlib.Core.Path.{◌≡◌, refl, sym, ◌∙◌, ap, ap₂, subst}
use mathlib.Core.Bool.{Bool, true, false}
use mathlib.Core.Option.{none, some, none-ne-some, some-injective}
use mathlib.Core.List.{List}
use mathlib.Core.Logic.{inl, inr}
use native.Mathlib.Omega.{arith}
use lib.ListN.{length, get_or, set, length-set}
use lib.Seq.{get_or-set_same, get_or-set_other}
use lib.Dec.{eqb}
use borrow.Author.Tests.{eqb-true, eqb-false}
use Rattle.meaning.specs.Trees.{RowKind, Leaf, Expr, ◌at◌, leaves, Each, Member}
use Rattle.frames.specs.Order.{node_limit, expression_limit}
use Rattle.frames.specs.declared.node.Node.{Node}
use Rattle.frames.specs.Tables.{count_in, node_in}
use Rattle.pool.specs.Words.{c0_in, c1_in, c2_in, root_in}
use Rattle.pool.specs.Pool.{Pool, node, root_of, children}
use Rattle.pool.specs.Trees.{leaf_of, class, grown, tree}
use Rattle.pool.specs.Shaped.{Shaped}
use Rattle.pool.specs.Admission.{leads_to, Edge}
use Rattle.pool.specs.Tabled.{Tables, tabled}
use Rattle.pool.specs.Ranking.{Tabling, Leads}
use Rattle.pool.specs.Cycles.{lead_by, lead_in}
use Rattle.pool.specs.Laws.Members.{each_member, member-each}
use Rattle.pool.specs.Laws.Tabled.{root-at, expression-count}
use Rattle.pool.specs.Laws.Trees.{arity, arity-is, leaf-is, tree_is}
use Rattle.pool.specs.Laws.Leads.{lead_is, no-children, children-lead}
use Rattle.pool.specs.Laws.Nodes as Nodes
use Rattle.exp_dims.specs.Dimension.{leaf_dim, tree_dim}
use Rattle.exp_dims.specs.Known.{leaf_dim_in, leaf_dim_by, unknown, Kept, D, Sound, World, TreeAsks, Gives, ExpAsks}
use Rattle.exp_dims.specs.Laws.{exp-is, grown-one, grown-two, grown-three}
use Rattle.exp_dims.proofs.Leaves.{leaf-by}

-- where a leaf leads, its dimension is the expression's
leaf-through : (dims table : List ℕ) (f : ℕ → ℕ) (l : Leaf) (n u : ℕ) → leads_to table (l at n) ≡ some u → leaf_dim dims table f l ≡ f u
leaf-through dims table f (Leaf.cell RowKind.cm i a) n u h = absurd (none-ne-some u h)
leaf-through dims table f (Leaf.cell RowKind.const i a) n u h = absurd (none-ne-some u h)
leaf-through dims table f (Leaf.cell RowKind.q i a) n u h = rw h
leaf-through dims table f (Leaf.exp i a) n u h = ap f (some-injective _ _ h)
leaf-through dims table f (Leaf.number l) n u h = absurd (none-ne-some u h)
leaf-through dims table f (Leaf.flat k i) n u h = absurd (none-ne-some u h)
leaf-through dims table f (Leaf.x k) n u h = absurd (none-ne-some u h)

-- ── what is known ────────────────────────────────────────────────────────────
module _ (t : Tables) (table dims known : List ℕ) (sound : Sound t table dims known) where
  -- a dimension that is known
  pub seen-is : (e : ℕ) → e < t.expression_count → {s : ℕ} → s ≡ get_or known e 0 → (s ≡ unknown → ⊥) → (s ≡ D t table dims e) × (s < unknown)
  seen-is e h {s} q z = go (sound.right e h)
    where
      go : Kept (D t table dims e) (get_or known e 0) → (s ≡ D t table dims e) × (s < unknown)
      go (inl g) = absurd (z (q ∙ g))
      go (inr g) = (q ∙ g.0, omega (arith, q, g.0, g.1))

  -- one more
  pub sound_more : (e : ℕ) → e < expression_limit → {d v : ℕ} → d ≡ D t table dims e → Kept d v → Sound t table dims (set known e v)
  sound_more e h {d} {v} q k =
      record {
        size = length-set known e v ∙ sound.size;
        right = λ b g. go b g (eqb b e) refl;
      }
    where
      go : (b : ℕ) → b < t.expression_count → (c : Bool) → eqb b e ≡ c → Kept (D t table dims b) (get_or (set known e v) b 0)
      go b g true z =
          let w : get_or (set known e v) e 0 ≡ v = get_or-set_same known e v 0 (rw sound.size h) in
          subst (λ n. Kept (D t table dims n) (get_or (set known e v) n 0)) (sym (eqb-true b e z)) (rw w (subst (λ n. Kept n v) q k))
      go b g false z = rw (get_or-set_other known e b v 0 (eqb-false b e z)) (sound.right b g)

-- ── an expression's tree ─────────────────────────────────────────────────────
module _ (t : Tables) (table dims : List ℕ) (rank : ℕ → ℕ) (world : World t table dims rank) (e : ℕ) (there : e < t.expression_count) where
  -- its leaves lead to expressions of lower rank
  pub root-deep : (levels : ℕ) → rank e ≤ levels → Leads t table (λ u. rank u < levels) (root_of (tabled t) e)
  root-deep levels h =
      each_member (λ v. (u : ℕ) → leads_to table v ≡ some u → rank u < levels) (leaves (tree (tabled t) (root_of (tabled t) e)))
      (λ v s u q.
      let d : Edge (tabled t) table e u = record { source = Nodes.source t world.starts.shaped there; leaf = v; stands = s; leads = q } in
      let k = world.ranked.falls e u d in
      omega (arith, k, h))

  -- its dimension is its tree's
  pub dim-is : D t table dims e ≡ tree_dim dims table (D t table dims) (tree (tabled t) (root_of (tabled t) e))
  dim-is =
      exp-is dims table (tabled t) rank world.ranked
      (λ b u d.
      let h : b < t.expression_count = subst (λ k. b < k) (expression-count t) d.source in
      let g = Nodes.leads-there t world.starts.shaped table world.starts.tabulated (root_of (tabled t) b) (Nodes.root-inside t world.starts.shaped h) in
      Nodes.source t world.starts.shaped (member-each (λ v. (u : ℕ) → leads_to table v ≡ some u → u < t.expression_count) (leaves (tree (tabled t) (root_of (tabled t) b))) g d.leaf d.stands u d.leads))
      e (Nodes.source t world.starts.shaped there)

-- ── a node's tree ────────────────────────────────────────────────────────────
module _ {w l x : List ℕ} {n m : ℕ} {table dims : List ℕ} {rank : ℕ → ℕ} {known : List ℕ} {levels i : ℕ} (a : TreeAsks (Tabling w l x n m) table dims rank known levels i) where
  abbrev t : Tables
  t = Tabling w l x n m

  abbrev p : Pool
  p = tabled t

  abbrev shaped : Shaped p
  shaped = a.world.starts.shaped

  abbrev X : Node
  X = node p i

  abbrev F : ℕ → ℕ
  F = D t table dims

  abbrev T : ℕ → ℕ
  T j = tree_dim dims table F (tree p j)

  inside : i < length p.nodes
  inside = Nodes.inside t shaped a.there

  pub room : i < node_limit
  room = omega (arith, a.there, a.world.starts.few_nodes)

  is : X ≡ node_in w l i
  is = Nodes.is t shaped a.there

  module _ {c : ℕ} (ce : c ≡ count_in w i) where
    count-is : X.count ≡ c
    count-is = Nodes.count-is t shaped a.there ce

    class-arity : arity (class X.kind) ≡ c
    class-arity = arity-is X.kind ∙ sym (shaped.counts i inside) ∙ count-is

    -- ── a leaf ───────────────────────────────────────────────────────────────
    module _ (z : c ≡ 0) where
      tree-leaf : tree p i ≡ Expr.leaf i (leaf_of X)
      tree-leaf = leaf-is p shaped i inside (no-children X.kind (sym (shaped.counts i inside) ∙ count-is ∙ z))

      leads : leads_to table (leaf_of X at i) ≡ lead_in w table i
      leads = lead_is table X i ∙ ap (λ (y : Node). lead_by table y.kind y.id) is

      -- that leads nowhere
      pub nowhere-gives : none ≡ lead_in w table i → {r : ℕ} → r ≡ leaf_dim_in w dims i → Gives t table dims known (T i) r
      nowhere-gives h {r} q =
          let g : lead_by table X.kind X.id ≡ none = ap (λ (y : Node). lead_by table y.kind y.id) is ∙ sym h in
          let k : leaf_dim_by dims X.kind X.id ≡ leaf_dim_in w dims i = ap (λ (y : Node). leaf_dim_by dims y.kind y.id) is in
          record { is = q ∙ sym k ∙ sym (leaf-by dims table F X g) ∙ sym (ap (tree_dim dims table F) tree-leaf); sound = a.sound }

      -- that leads to an expression
      module _ {e : ℕ} (h : some e ≡ lead_in w table i) where
        leads-e : leads_to table (leaf_of X at i) ≡ some e
        leads-e = leads ∙ sym h

        tree-e : T i ≡ F e
        tree-e = ap (tree_dim dims table F) tree-leaf ∙ leaf-through dims table F (leaf_of X) i e leads-e

        low : rank e < levels
        low = (subst (λ (y : Expr). Each (λ v. (u : ℕ) → leads_to table v ≡ some u → rank u < levels) (leaves y)) tree-leaf a.deep).0 e leads-e

        there-e : e < m
        there-e =
            (subst (λ (y : Expr). Each (λ v. (u : ℕ) → leads_to table v ≡ some u → u < m) (leaves y)) tree-leaf
            (Nodes.leads-there t shaped table a.world.starts.tabulated i inside)).0 e leads-e

        pub exp-room : e < expression_limit
        exp-room = omega (arith, there-e, a.world.starts.few_expressions)

        pub some-levels : 0 < levels
        some-levels = omega (arith, low)

        pub seen_low : {s : ℕ} → s ≡ get_or known e 0 → (s ≡ unknown → ⊥) → s < unknown
        seen_low q z = (seen-is t table dims known a.sound e there-e q z).1

        pub seen-gives : {s : ℕ} → s ≡ get_or known e 0 → (s ≡ unknown → ⊥) → Gives t table dims known (T i) s
        seen-gives q z = record { is = (seen-is t table dims known a.sound e there-e q z).0 ∙ sym tree-e; sound = a.sound }

        -- its tree, with a level less
        module _ {r : ℕ} (q : r ≡ root_in x e) where
          root_is : root_of p e ≡ r
          root_is = root-at t e there-e ∙ sym q

          pub root-asks : TreeAsks t table dims rank known (levels - 1) r
          root-asks =
              record {
                world = a.world;
                there = Nodes.root-there t shaped there-e q;
                sound = a.sound;
                deep = subst (Leads t table (λ u. rank u < levels - 1)) root_is (root-deep t table dims rank a.world e there-e (levels - 1) (omega (arith, low)));
              }

          pub root_less : (levels - 1) * 4098 + (r + 1) < levels * 4098 + (i + 1)
          root_less = let k = root-asks.there in let f = a.world.starts.few_nodes in omega (arith, k, f, low)

          pub root-gives : {known1 : List ℕ} {d v : ℕ} → Kept d v → Gives t table dims known1 (T r) d → Gives t table dims (set known1 e v) (T i) d
          root-gives {known1} {d} h g =
              let k : d ≡ F e = g.is ∙ ap T (sym root_is) ∙ sym (dim-is t table dims rank a.world e there-e) in
              record { is = k ∙ sym tree-e; sound = sound_more t table dims known1 g.sound e exp-room k h }

    -- ── an operation ─────────────────────────────────────────────────────────
    module _ (more : c ≡ 0 → ⊥) where
      deep-children : Each (Leads t table (λ u. rank u < levels)) (children X)
      deep-children = (children-lead p table shaped i inside (λ u. rank u < levels) (λ z. more (sym count-is ∙ z))).0 a.deep

      child-asks : {known1 : List ℕ} → Sound t table dims known1 → (j : ℕ) → Member j (children X) → TreeAsks t table dims rank known1 levels j
      child-asks s j b =
          record {
            world = a.world;
            there = let k = Nodes.child-earlier t shaped a.there j b in omega (arith, k, a.there);
            sound = s;
            deep = member-each (Leads t table (λ u. rank u < levels)) (children X) deep-children j b;
          }

      child_less : (j : ℕ) → Member j (children X) → levels * 4098 + (j + 1) < levels * 4098 + (i + 1)
      child_less j b = let k = Nodes.child-earlier t shaped a.there j b in omega (arith, k)

      T-at : (j k : ℕ) → j ≡ k → T k ≡ T j
      T-at j k e = ap T (sym e)

      grown-is : T i ≡ tree_dim dims table F (grown (class X.kind) (tree p) i X)
      grown-is = ap (tree_dim dims table F) (tree_is p shaped i inside)

      -- the first child
      module _ {j0 : ℕ} (q0 : j0 ≡ c0_in w i) where
        child0 : Member j0 (children X)
        child0 = Nodes.first-child t shaped a.there ce more q0

        pub asks0 : TreeAsks t table dims rank known levels j0
        asks0 = child-asks a.sound j0 child0

        pub less0 : levels * 4098 + (j0 + 1) < levels * 4098 + (i + 1)
        less0 = child_less j0 child0

        is0 : X.c0 ≡ j0
        is0 = ap (λ (y : Node). y.c0) is ∙ sym q0

        module _ {known1 : List ℕ} {d0 : ℕ} (g0 : Gives t table dims known1 (T j0) d0) {f0 : ℕ} (e0 : f0 ≡ max 1 d0) where
          first_is : f0 ≡ max 1 (T X.c0)
          first_is = e0 ∙ ap (max 1) (g0.is ∙ ap T (sym is0))

          pub one-gives : c ≡ 1 → Gives t table dims known1 (T i) f0
          one-gives h = record { is = first_is ∙ sym (grown-is ∙ grown-one dims table F (tree p) i X (class X.kind) (class-arity ∙ h)); sound = g0.sound }

          -- the second
          module _ (more1 : c ≡ 1 → ⊥) {j1 : ℕ} (q1 : j1 ≡ c1_in w i) where
            child1 : Member j1 (children X)
            child1 = Nodes.second-child t shaped a.there ce more more1 q1

            pub asks1 : TreeAsks t table dims rank known1 levels j1
            asks1 = child-asks g0.sound j1 child1

            pub less1 : levels * 4098 + (j1 + 1) < levels * 4098 + (i + 1)
            less1 = child_less j1 child1

            is1 : X.c1 ≡ j1
            is1 = ap (λ (y : Node). y.c1) is ∙ sym q1

            module _ {known2 : List ℕ} {d1 : ℕ} (g1 : Gives t table dims known2 (T j1) d1) {f1 : ℕ} (e1 : f1 ≡ max f0 d1) where
              second_is : f1 ≡ max (max 1 (T X.c0)) (T X.c1)
              second_is = e1 ∙ ap₂ max first_is (g1.is ∙ ap T (sym is1))

              pub two-gives : c ≡ 2 → Gives t table dims known2 (T i) f1
              two-gives h = record { is = second_is ∙ sym (grown-is ∙ grown-two dims table F (tree p) i X (class X.kind) (class-arity ∙ h)); sound = g1.sound }

              -- the third
              module _ (more2 : c ≡ 2 → ⊥) {j2 : ℕ} (q2 : j2 ≡ c2_in w i) where
                child2 : Member j2 (children X)
                child2 = Nodes.third-child t shaped a.there ce more more1 more2 q2

                pub asks2 : TreeAsks t table dims rank known2 levels j2
                asks2 = child-asks g1.sound j2 child2

                pub less2 : levels * 4098 + (j2 + 1) < levels * 4098 + (i + 1)
                less2 = child_less j2 child2

                is2 : X.c2 ≡ j2
                is2 = ap (λ (y : Node). y.c2) is ∙ sym q2

                pub three-gives : {known3 : List ℕ} {d2 : ℕ} → Gives t table dims known3 (T j2) d2 → {r : ℕ} → r ≡ max f1 d2 → Gives t table dims known3 (T i) r
                three-gives g2 e2 =
                    record {
                      is =
                          e2 ∙ ap₂ max second_is (g2.is ∙ ap T (sym is2))
                          ∙ sym (grown-is ∙ grown-three dims table F (tree p) i X (class X.kind) (class-arity ∙ Nodes.third-count t shaped a.there ce more more1 more2));
                      sound = g2.sound;
                    }

-- ── an expression ────────────────────────────────────────────────────────────
module _ {w l x : List ℕ} {n m : ℕ} {table dims : List ℕ} {rank : ℕ → ℕ} {known : List ℕ} {e : ℕ} (a : ExpAsks (Tabling w l x n m) table dims rank known e) where
  abbrev tab : Tables
  tab = Tabling w l x n m

  pub exp-there : e < expression_limit
  exp-there = omega (arith, a.there, a.world.starts.few_expressions)

  module _ {r : ℕ} (q : r ≡ root_in x e) where
    exp-root-is : root_of (tabled tab) e ≡ r
    exp-root-is = root-at tab e a.there ∙ sym q

    pub exp-root-asks : TreeAsks tab table dims rank known expression_limit r
    exp-root-asks =
        record {
          world = a.world;
          there = Nodes.root-there tab a.world.starts.shaped a.there q;
          sound = a.sound;
          deep = subst (Leads tab table (λ u. rank u < expression_limit)) exp-root-is (root-deep tab table dims rank a.world e a.there expression_limit (few));
        }
      where
        few : rank e ≤ expression_limit
        few = let k = a.world.ranked.below e (Nodes.source tab a.world.starts.shaped a.there) in omega (arith, k, a.world.starts.few_expressions, expression-count tab)

    pub exp-gives : {known1 : List ℕ} {d : ℕ} → Gives tab table dims known1 (tree_dim dims table (D tab table dims) (tree (tabled tab) r)) d → Gives tab table dims known1 (D tab table dims e) d
    exp-gives g = record { is = g.is ∙ ap (λ j. tree_dim dims table (D tab table dims) (tree (tabled tab) j)) (sym exp-root-is) ∙ sym (dim-is tab table dims rank a.world e a.there); sound = g.sound }
