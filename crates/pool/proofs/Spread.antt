-- What the leaves of a node's tree mark, by the node: a leaf, or an operation's children one after another.
-- Assumes nothing.
use Prim.Native.Nat.{ℕ, ◌<◌, ◌≤◌}
use mathlib.Core.Path.{◌≡◌, sym, ◌∙◌, ap, subst}
use mathlib.Core.Option.{none, some}
use mathlib.Core.List.{List, [], ◌∷◌}
use native.Mathlib.Omega.{arith}
use lib.ListN.{length, get_or, set}
use borrow.Author.Tests.{eq-eqb, ne_eqb}
use Rattle.meaning.specs.Trees.{◌at◌, leaves, Each, Member}
use Rattle.frames.specs.declared.node.Node.{Node}
use Rattle.frames.specs.Tables.{kind_in, id_in, count_in}
use Rattle.kinds.specs.KindBytes as kind
use Rattle.pool.specs.Words.{c0_in, c1_in, c2_in}
use Rattle.pool.specs.Pool.{Pool, node, children}
use Rattle.pool.specs.Trees.{leaf_of, tree}
use Rattle.pool.specs.Shaped.{Shaped}
use Rattle.pool.specs.Admission.{leads_to}
use Rattle.pool.specs.Tabled.{Tables, tabled}
use Rattle.pool.specs.Ranking.{Tabling}
use Rattle.pool.specs.Cycles.{lead_by, lead_in, reach, mark, nearer, marked, nearest, Spreads, LeafAsked, LeafGiven, Standing}
use Rattle.pool.specs.Laws.Trees.{leaves_of, leaves_are, leaf-is}
use Rattle.pool.proofs.Children.{nth_get, nth_past}
use Rattle.pool.specs.Laws.Leads.{lead_is, no-children, some-children}
use Rattle.pool.specs.Laws.Nodes as Nodes
use Rattle.pool.proofs.Marks.{spreads_none, spreads_append}

-- ── where a leaf leads ───────────────────────────────────────────────────────
module _ (w table : List ℕ) (i : ℕ) {k : ℕ} (ke : k ≡ kind_in w i) where
  pub exp-lead : k ≡ kind.exp → {e : ℕ} → e ≡ id_in w i → some e ≡ lead_in w table i
  exp-lead h {e} q = rw (sym ke ∙ h, sym q)

  module _ (h : k ≡ kind.q) {q : ℕ} (qe : q ≡ id_in w i) where
    pub q-lost : length table ≤ q → none ≡ lead_in w table i
    q-lost l = rw (sym ke ∙ h, sym qe) (sym (nth_past table q l))

    pub q-lead : q < length table → {e : ℕ} → e ≡ get_or table q 0 → some e ≡ lead_in w table i
    q-lead l {e} ee = rw (sym ke ∙ h, sym qe) (ap some ee ∙ sym (nth_get table q l))

  pub no_lead : (k ≡ kind.exp → ⊥) → (k ≡ kind.q → ⊥) → none ≡ lead_in w table i
  no_lead n m = rw (← ke, ne_eqb k kind.exp n, ne_eqb k kind.q m)

-- ── a leaf's mark ────────────────────────────────────────────────────────────
pub reach-new : (s : List ℕ) (v : ℕ) → get_or s v 0 ≡ 0 → set s v 1 ≡ reach s v
reach-new s v h = rw (eq-eqb (get_or s v 0) 0 h)

pub reach-old : (s : List ℕ) (v : ℕ) → (get_or s v 0 ≡ 0 → ⊥) → s ≡ reach s v
reach-old s v h = rw (ne_eqb (get_or s v 0) 0 h)

-- ── a node's tree ────────────────────────────────────────────────────────────
module _ {w l e : List ℕ} {n m : ℕ} {table : List ℕ} {i : ℕ} (a : Standing w l e n m table i) where
  abbrev t : Tables
  t = Tabling w l e n m

  abbrev p : Pool
  p = tabled t

  abbrev shaped : Shaped p
  shaped = a.starts.shaped

  abbrev x : Node
  x = node p i

  inside : i < length p.nodes
  inside = Nodes.inside t shaped a.there

  pub room : i < 4096
  room = omega (arith, a.there, a.starts.few_nodes)

  module _ {c : ℕ} (ce : c ≡ count_in w i) where
    count-is : x.count ≡ c
    count-is = Nodes.count-is t shaped a.there ce

    -- a leaf
    module _ (z : c ≡ 0) where
      leaves-leaf : leaves (tree p i) ≡ (leaf_of x at i) ∷ []
      leaves-leaf = ap leaves (leaf-is p shaped i inside (no-children x.kind (sym (shaped.counts i inside) ∙ count-is ∙ z)))

      leads-is : leads_to table (leaf_of x at i) ≡ lead_in w table i
      leads-is = lead_is table x i ∙ ap (λ (y : Node). lead_by table y.kind y.id) (Nodes.is t shaped a.there)

      pub leaf-asks : LeafAsked w table i
      leaf-asks = record {
        there = room;
        leads = λ v q.
            let h : v < m = (subst (λ ws. Each (λ k. (v : ℕ) → leads_to table k ≡ some v → v < m) ws) leaves-leaf (Nodes.leads-there t shaped table a.starts.tabulated i inside)).0 v (leads-is ∙ q) in
            omega (arith, a.starts.few_expressions);
      }

      pub leaf_spreads : {u : ℕ} {s s' : List ℕ} {b b' : ℕ} → LeafGiven w table u i s b s' b' → Spreads table u (leaves (tree p i)) s b s' b'
      unfolding marked nearest
      leaf_spreads {u} {s} {s'} {b} {b'} g = subst (λ ws. Spreads table u ws s b s' b') (sym leaves-leaf) (record {
        marks = g.marks ∙ ap (λ o. mark o s) (sym leads-is);
        least = g.least ∙ ap (λ o. nearer u o i b) (sym leads-is);
      })

    -- an operation
    module _ (some : c ≡ 0 → ⊥) where
      child-stands : (j : ℕ) → Member j (children x) → Standing w l e n m table j
      child-stands j h = record { starts = a.starts; there = omega (arith, Nodes.child-earlier t shaped a.there j h, a.there) }

      by-children : {u : ℕ} {s s' : List ℕ} {b b' : ℕ} → Spreads table u (leaves_of p (children x)) s b s' b' → Spreads table u (leaves (tree p i)) s b s' b'
      by-children {u} {s} {s'} {b} {b'} h =
          subst (λ ws. Spreads table u ws s b s' b')
          (sym (leaves_are p shaped i inside (some-children x.kind (λ z. some (sym count-is ∙ shaped.counts i inside ∙ z))))) h

      -- one child and then others
      and_then :
          {u : ℕ} {s s1 s2 : List ℕ} {b b1 b2 : ℕ} {j k : ℕ} (cs : List ℕ) → j ≡ k → Spreads table u (leaves (tree p j)) s b s1 b1 → Spreads table u (leaves_of p cs) s1 b1 s2 b2 →
          Spreads table u (leaves_of p (k ∷ cs)) s b s2 b2
      and_then {u} {s} {s1} {s2} {b} {b1} {b2} {j} {k} cs q g h =
          spreads_append table u (leaves (tree p k)) (leaves_of p cs) (subst (λ i. Spreads table u (leaves (tree p i)) s b s1 b1) q g) h

      module _ {j0 : ℕ} (q0 : j0 ≡ c0_in w i) where
        pub stands0 : Standing w l e n m table j0
        stands0 = child-stands j0 (Nodes.first-child t shaped a.there ce some q0)

        pub less0 : j0 < i
        less0 = Nodes.child-earlier t shaped a.there j0 (Nodes.first-child t shaped a.there ce some q0)

        module _ {u : ℕ} {s s1 : List ℕ} {b b1 : ℕ} (g0 : Spreads table u (leaves (tree p j0)) s b s1 b1) where
          pub one_spreads : c ≡ 1 → Spreads table u (leaves (tree p i)) s b s1 b1
          one_spreads h = by-children (rw (Nodes.one-child t shaped a.there ce h) (and_then [] q0 g0 (spreads_none table u s1 b1)))

          module _ {s2 : List ℕ} {b2 : ℕ} {j1 : ℕ} (q1 : j1 ≡ c1_in w i) (g1 : Spreads table u (leaves (tree p j1)) s1 b1 s2 b2) where
            pub two_spreads : c ≡ 2 → Spreads table u (leaves (tree p i)) s b s2 b2
            two_spreads h = by-children (rw (Nodes.two-children t shaped a.there ce h) (and_then (c1_in w i ∷ []) q0 g0 (and_then [] q1 g1 (spreads_none table u s2 b2))))

            pub three_spreads :
                (c ≡ 1 → ⊥) → (c ≡ 2 → ⊥) → {s3 : List ℕ} {b3 : ℕ} {j2 : ℕ} → j2 ≡ c2_in w i → Spreads table u (leaves (tree p j2)) s2 b2 s3 b3 → Spreads table u (leaves (tree p i)) s b s3 b3
            three_spreads n1 n2 {s3} {b3} q2 g2 =
                by-children
                (rw (Nodes.three-children t shaped a.there ce (Nodes.third-count t shaped a.there ce some n1 n2))
                (and_then (c1_in w i ∷ c2_in w i ∷ []) q0 g0 (and_then (c2_in w i ∷ []) q1 g1 (and_then [] q2 g2 (spreads_none table u s3 b3)))))

      module _ (n1 : c ≡ 1 → ⊥) {j1 : ℕ} (q1 : j1 ≡ c1_in w i) where
        pub stands1 : Standing w l e n m table j1
        stands1 = child-stands j1 (Nodes.second-child t shaped a.there ce some n1 q1)

        pub less1 : j1 < i
        less1 = Nodes.child-earlier t shaped a.there j1 (Nodes.second-child t shaped a.there ce some n1 q1)

        module _ (n2 : c ≡ 2 → ⊥) {j2 : ℕ} (q2 : j2 ≡ c2_in w i) where
          pub stands2 : Standing w l e n m table j2
          stands2 = child-stands j2 (Nodes.third-child t shaped a.there ce some n1 n2 q2)

          pub less2 : j2 < i
          less2 = Nodes.child-earlier t shaped a.there j2 (Nodes.third-child t shaped a.there ce some n1 n2 q2)
