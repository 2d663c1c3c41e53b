-- A node of an admitted pool, with the levels of expressions that its leaves may still lead through, and the parts that a recursion goes on to.
-- Assumes nothing.
use Rattle.std.specs.Prelude.{ℕ, ◌-◌, ◌<◌, ◌≤◌, ◌≡◌, refl, Bool, true, false, List, [], ◌++◌, eqb, length}
use Rattle.std.proofs.Common.{sym, ◌∙◌, ap, subst, inr, arith, eqb-true}
use Rattle.std.proofs.Math.Option.{some}
use Rattle.std.proofs.lemmas.Bool.{eqb-false}
use Rattle.meaning.specs.Trees.{Expression, nth, Placed, leaves, Each}
use Rattle.meaning.proofs.Laws.Tests.{each_left, each_right}
use Rattle.search_meaning.specs.Degrees.{full_leaf, full}
use Rattle.search_meaning.specs.Levels.{full_is}
use Rattle.kinds.specs.KindBytes as kind
use Rattle.frames.specs.Order.{node_limit, expression_limit}
use Rattle.frames.specs.declared.node.Node.{Node}
use Rattle.frames.specs.Tables.{kind_in, id_in}
use Rattle.pool.specs.Words.{c0_in, c1_in, c2_in, root_in}
use Rattle.pool.specs.Pool.{Pool, node, root_of}
use Rattle.pool.specs.Trees.{tree, forest}
use Rattle.pool.specs.Shaped.{Shaped}
use Rattle.pool.specs.Admission.{leads_to, Edge}
use Rattle.pool.specs.Tabled.{Tables, tabled}
use Rattle.pool.specs.Ranking.{Leads}
use Rattle.pool.specs.Laws.Members.{each_member, member-each}
use Rattle.pool.specs.Laws.Tabled.{root-at, expression-count}
use Rattle.pool.specs.Laws.Leads.{exp-leads}
use Rattle.pool.specs.Laws.Forest.{forest-at, forest-has, forest-acyclic}
use Rattle.pool.specs.Laws.Nodes as Nodes
use Rattle.full_degrees.specs.Shapes.{sum_leaves, single_leaves, by-exp, sum_is, mul_is, muladd-is, single-is, two-before, three-before, one-before, leaf-at}
use Rattle.full_degrees.specs.Table.{World, F, full_at}

-- node i, whose leaves lead to expressions of a rank below levels
pub record Stands (t : Tables) (rank : ℕ → ℕ) (levels i : ℕ) : Type 0 where
  pub world : World t rank
  pub there : i < t.node_count
  pub deep : Leads t [] (λ u. rank u < levels) i

-- ── an expression ────────────────────────────────────────────────────────────
module _ {t : Tables} {rank : ℕ → ℕ} (world : World t rank) {e : ℕ} (there : e < t.expression_count) where
  abbrev p : Pool
  p = tabled t

  abbrev shaped : Shaped p
  shaped = world.starts.shaped

  source : e < length p.expressions
  source = Nodes.source t shaped there

  -- the expression of the forest
  pub body_is : {r : ℕ} → r ≡ root_in t.expressions e → (x : Expression) × (nth (forest p) e ≡ some x) × (x.tree ≡ tree p r)
  body_is {r} q =
      let x = forest-has p e source in
      (x.0, x.1, (forest-at p e x.0 x.1).1 ∙ ap (tree p) (root-at t e there ∙ sym q))

  pub few_ranks : rank e < t.expression_count
  few_ranks = subst (λ n. rank e < n) (expression-count t) (world.ranked.below e source)

  -- its full degree is that of its tree
  pub full_of : {r : ℕ} → r ≡ root_in t.expressions e → F t e ≡ full_at t r
  full_of q =
      let x = body_is q in
      full_is (forest p) (forest-acyclic p shaped rank world.ranked) e x.0 x.1 ∙ ap (full (F t)) x.2

  -- its tree, with as many levels as its rank
  pub body_stands : {levels r : ℕ} → rank e ≤ levels → r ≡ root_in t.expressions e → Stands t rank levels r
  body_stands {levels} {r} h q =
      record {
        world = world;
        there = Nodes.root-there t shaped there q;
        deep = subst (Leads t [] (λ u. rank u < levels)) (root-at t e there ∙ sym q)
            (each_member (λ v. (u : ℕ) → leads_to [] v ≡ some u → rank u < levels) (leaves (tree p (root_of p e)))
            (λ v s u g.
            let d : Edge p [] e u = record { source = source; leaf = v; stands = s; leads = g } in
            let k = world.ranked.falls e u d in
            omega (arith, k, h)));
      }

-- ── any node, with all levels ────────────────────────────────────────────────
pub all-levels : {t : Tables} {rank : ℕ → ℕ} → World t rank → {i : ℕ} → i < t.node_count → Stands t rank t.expression_count i
all-levels {t} {rank} world {i} there =
    record {
      world = world;
      there = there;
      deep =
          let g = Nodes.leads-there t world.starts.shaped [] world.starts.tabulated i (Nodes.inside t world.starts.shaped there) in
          each_member (λ v. (u : ℕ) → leads_to [] v ≡ some u → rank u < t.expression_count) (leaves (tree (tabled t) i))
          (λ v s u q. few_ranks world (member-each (λ v. (u : ℕ) → leads_to [] v ≡ some u → u < t.expression_count) (leaves (tree (tabled t) i)) g v s u q));
    }

-- ── the parts of a node ──────────────────────────────────────────────────────
module _ {t : Tables} {rank : ℕ → ℕ} {levels i : ℕ} (s : Stands t rank levels i) where
  abbrev pool : Pool
  pool = tabled t

  abbrev shape : Shaped pool
  shape = s.world.starts.shaped

  abbrev k : ℕ
  k = kind_in t.nodes i

  abbrev P : Placed → Type 0
  P w = (u : ℕ) → leads_to [] w ≡ some u → rank u < levels

  pub room : i < node_limit
  room = omega (arith, s.there, s.world.starts.few_nodes)

  part : {j : ℕ} → j < i → Each P (leaves (tree pool j)) → Stands t rank levels j
  part h d = record { world = s.world; there = omega (arith, h, s.there); deep = d }

  two_deep : 1 ≤ k → k ≤ kind.mul → Each P (leaves (tree pool (c0_in t.nodes i))) × Each P (leaves (tree pool (c1_in t.nodes i)))
  two_deep a b = go (eqb k kind.mul) refl
    where
      go : (c : Bool) → eqb k kind.mul ≡ c → Each P (leaves (tree pool (c0_in t.nodes i))) × Each P (leaves (tree pool (c1_in t.nodes i)))
      go true q =
          let A = leaves (tree pool (c0_in t.nodes i)) in
          let B = leaves (tree pool (c1_in t.nodes i)) in
          let d : Each P (A ++ B) = subst (λ x. Each P (leaves x)) (mul_is t shape s.there (eqb-true _ _ q)) s.deep in
          (each_left P A B d, each_right P A B d)
      go false q =
          let z : k ≡ 3 → ⊥ = eqb-false _ _ q in
          sum_leaves P (sum_is t shape s.there a (omega arith)) s.deep

  -- a child's number, and where it stands
  pub record Part (j : ℕ) : Type 0 where
    pub before : j < i
    pub stands : Stands t rank levels j

  made : {j c : ℕ} → c < i → Each P (leaves (tree pool c)) → j ≡ c → Part j
  made h d q = rw q (record { before = h; stands = part h d })

  pub left : 1 ≤ k → k ≤ kind.mul → {j : ℕ} → j ≡ c0_in t.nodes i → Part j
  left a b = made (two-before t shape s.there a b).0 (two_deep a b).0

  pub right : 1 ≤ k → k ≤ kind.mul → {j : ℕ} → j ≡ c1_in t.nodes i → Part j
  right a b = made (two-before t shape s.there a b).1 (two_deep a b).1

  pub only : kind.addc ≤ k → k ≤ kind.neg → {j : ℕ} → j ≡ c0_in t.nodes i → Part j
  only a b = made (one-before t shape s.there a b) (single_leaves P (single-is t shape s.there a b) s.deep)

  module _ (h : k ≡ kind.muladd) where
    abbrev A : List Placed
    A = leaves (tree pool (c0_in t.nodes i))

    abbrev B : List Placed
    B = leaves (tree pool (c1_in t.nodes i))

    abbrev C : List Placed
    C = leaves (tree pool (c2_in t.nodes i))

    all : Each P (A ++ (B ++ C))
    all = subst (λ x. Each P (leaves x)) (muladd-is t shape s.there h) s.deep

    pub first : {j : ℕ} → j ≡ c0_in t.nodes i → Part j
    first = made (three-before t shape s.there h).0 (each_left P A (B ++ C) all)

    pub second : {j : ℕ} → j ≡ c1_in t.nodes i → Part j
    second = made (three-before t shape s.there h).1 (each_left P B C (each_right P A (B ++ C) all))

    pub third : {j : ℕ} → j ≡ c2_in t.nodes i → Part j
    third = made (three-before t shape s.there h).2 (each_right P B C (each_right P A (B ++ C) all))

  -- an exp leaf leads to its expression
  module _ (h : k ≡ kind.exp) {e : ℕ} (q : e ≡ id_in t.nodes i) where
    is-exp : (node pool i).kind ≡ kind.exp
    is-exp = ap (λ (y : Node). y.kind) (Nodes.is t shape s.there) ∙ h

    id-is : (node pool i).id ≡ e
    id-is = ap (λ (y : Node). y.id) (Nodes.is t shape s.there) ∙ sym q

    pub named : e < t.expression_count
    named = subst (λ n. e < n) (expression-count t) (subst (λ j. j < length pool.expressions) id-is (shape.asked i (Nodes.inside t shape s.there) is-exp))

    pub named-room : e < expression_limit
    named-room = omega (arith, named, s.world.starts.few_expressions)

    pub lower : rank e < levels
    lower = subst (λ j. rank j < levels) id-is ((exp-leads pool [] shape i (Nodes.inside t shape s.there) (λ u. rank u < levels) is-exp).0 s.deep)

    pub body : {r : ℕ} → r ≡ root_in t.expressions e → Stands t rank (levels - 1) r
    body g = body_stands s.world named (omega (arith, lower)) g

    pub leaf-full : {r : ℕ} → r ≡ root_in t.expressions e → full_at t i ≡ full_at t r
    leaf-full g =
        let l = leaf-at t shape s.there (inr (omega (arith, h))) in
        ap (full (F t)) l.1 ∙ ap (full_leaf (F t)) (l.2 ∙ by-exp k (id_in t.nodes i) h) ∙ ap (F t) (sym q) ∙ full_of s.world named g
