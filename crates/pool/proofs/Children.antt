-- Following the leaves of one node: an exp leaf, a q leaf, another leaf, and an operation's children one after another.
-- Assumes nothing.
use Prim.Native.Nat.{ℕ, zero, suc, ◌+◌, ◌*◌, ◌<◌, ◌≤◌}
use mathlib.Core.Path.{◌≡◌, refl, sym, ◌∙◌, ap, subst}
use mathlib.Core.Option.{none, some}
use mathlib.Core.List.{List, [], ◌∷◌}
use mathlib.Core.Logic.{inl, inr, ◌↔◌}
use native.Mathlib.Omega.{arith}
use native.Mathlib.Nat.{not-suc-le-zero, le_of_suc-le-suc}
use lib.ListN.{length, get_or}
use Rattle.std.specs.Prelude.{Option, Some}
use Rattle.meaning.specs.Trees.{nth, Each, Member}
use Rattle.frames.specs.declared.node.Node.{Node}
use Rattle.frames.specs.Tables.{kind_in, id_in, count_in, node_in}
use Rattle.pool.specs.Words.{c0_in, c1_in, c2_in}
use Rattle.kinds.specs.KindBytes as kind
use Rattle.pool.specs.Pool.{Pool, node, children}
use Rattle.pool.specs.Shaped.{Shaped}
use Rattle.pool.specs.Tabled.{Tables, tabled}
use Rattle.pool.specs.Ranking.{zeros, Later, Leads, State, Follows, AsksVisit, AsksWalk, Ranks, Gives}
use Rattle.pool.specs.Laws.Members.{member-each}
use Rattle.pool.specs.Laws.Tabled.{expression-count}
use Rattle.pool.proofs.Counts.{zeros-later}
use Rattle.pool.specs.Laws.Leads.{leads-map, exp-leads, q-leads, q-nowhere, other-nowhere, children-lead, nth-member}
use Rattle.pool.specs.Laws.Nodes as Nodes
use Rattle.pool.specs.Laws.Nodes.{child-earlier, count-is, one-child, two-children, three-children, third-count, first-child, second-child, third-child}
use Rattle.pool.proofs.Ranks.{later_refl, later-ranked, later_trans, follow_less, ranked-some, still}

-- an element of a list is what stands there
pub nth_get : (l : List ℕ) (i : ℕ) → i < length l → nth l i ≡ some (get_or l i 0)
nth_get [] i h = absurd (not-suc-le-zero h)
nth_get (a ∷ l) zero h = refl
nth_get (a ∷ l) (suc i) h = nth_get l i (le_of_suc-le-suc h)

pub nth_past : (l : List ℕ) (i : ℕ) → length l ≤ i → nth l i ≡ none
nth_past [] i h = refl
nth_past (a ∷ l) zero h = absurd (not-suc-le-zero h)
nth_past (a ∷ l) (suc i) h = nth_past l i (le_of_suc-le-suc h)

module _ (t : Tables) (table : List ℕ) where
  abbrev p : Pool
  p = tabled t

  -- what was asked for is ranked
  abbrev pub Ranked : List ℕ → ℕ → Type 0
  Ranked s n = Leads t table (λ u. 2 ≤ get_or s u 0) n

  -- a walk's answer from a visit's
  regoal : {s s' : List ℕ} {r : Option ℕ} {F G : Type 0} → (F → G) → Gives t table s s' r F → Gives t table s s' r G
  regoal f (inl h) = inl h
  regoal f (inr h) = inr (h.0, h.1, record { state = h.2.state; later = h.2.later; goal = f h.2.goal })

  module _ {s : List ℕ} {done i : ℕ} (a : AsksWalk t table s done i) where
    inside : i < length p.nodes
    inside = Nodes.inside t a.state.shaped a.there

    pub room : i < 4096
    room = omega (arith, a.there, a.state.few_nodes)

    abbrev x : Node
    x = node p i

    is : x ≡ node_in t.nodes t.literals i
    is = Nodes.is t a.state.shaped a.there

    module _ {k : ℕ} (ke : k ≡ kind_in t.nodes i) where
      kind-is : x.kind ≡ k
      kind-is = ap (λ n. n.kind) is ∙ sym ke

      -- an exp leaf
      module _ (h : k ≡ kind.exp) {e : ℕ} (ee : e ≡ id_in t.nodes i) where
        leads-e : (Q : ℕ → Type 0) → Leads t table Q i ↔ Q e
        leads-e Q = subst (λ z. Leads t table Q i ↔ Q z) (ap (λ n. n.id) is ∙ sym ee) (exp-leads p table a.state.shaped i inside Q (kind-is ∙ h))

        pub exp-asks : AsksVisit t table s done e
        exp-asks = record {
          state = a.state;
          there = subst (λ n. e < n) (expression-count t) (subst (λ z. z < length p.expressions) (ap (λ n. n.id) is ∙ sym ee) (a.state.shaped.asked i inside (kind-is ∙ h)));
          follows = (leads-e (Follows t table s)).0 a.follows;
        }

        pub exp-gives : {s' : List ℕ} {r : Option ℕ} → Gives t table s s' r (2 ≤ get_or s' e 0) → Gives t table s s' r (Ranked s' i)
        exp-gives {s'} g = regoal (leads-e (λ u. 2 ≤ get_or s' u 0)).1 g

      -- a q leaf
      module _ (h : k ≡ kind.q) {q : ℕ} (qe : q ≡ id_in t.nodes i) where
        id-is : x.id ≡ q
        id-is = ap (λ n. n.id) is ∙ sym qe

        pub q-past : length table ≤ q → Gives t table s s (Some done) (Ranked s i)
        q-past l = still t table a.state (q-nowhere p table a.state.shaped i inside (λ u. 2 ≤ get_or s u 0) (kind-is ∙ h) (ap (nth table) id-is ∙ nth_past table q l))

        module _ (l : q < length table) {e : ℕ} (ee : e ≡ get_or table q 0) where
          led : nth table x.id ≡ some e
          led = ap (nth table) id-is ∙ nth_get table q l ∙ ap some (sym ee)

          leads-q : (Q : ℕ → Type 0) → Leads t table Q i ↔ Q e
          leads-q Q = q-leads p table a.state.shaped i inside Q (kind-is ∙ h) led

          pub q-asks : AsksVisit t table s done e
          q-asks = record {
            state = a.state;
            there = a.state.tabulated e (nth-member table x.id led);
            follows = (leads-q (Follows t table s)).0 a.follows;
          }

          pub q-gives : {s' : List ℕ} {r : Option ℕ} → Gives t table s s' r (2 ≤ get_or s' e 0) → Gives t table s s' r (Ranked s' i)
          q-gives {s'} g = regoal (leads-q (λ u. 2 ≤ get_or s' u 0)).1 g

      -- any other leaf
      pub leaf-gives : (k ≡ kind.exp → ⊥) → (k ≡ kind.q → ⊥) → {c : ℕ} → c ≡ count_in t.nodes i → c ≡ 0 → Gives t table s s (Some done) (Ranked s i)
      leaf-gives n m ce z =
          still t table a.state
          (other-nowhere p table a.state.shaped i inside (λ u. 2 ≤ get_or s u 0) (ap (λ y. y.count) is ∙ sym ce ∙ z) (λ q. n (sym kind-is ∙ q)) (λ q. m (sym kind-is ∙ q)))

    -- an operation
    module _ {c : ℕ} (ce : c ≡ count_in t.nodes i) (some : c ≡ 0 → ⊥) where
      by-children : (Q : ℕ → Type 0) → Leads t table Q i ↔ Each (Leads t table Q) (children x)
      by-children Q = children-lead p table a.state.shaped i inside Q (λ z. some (sym (count-is t a.state.shaped a.there ce) ∙ z))

      -- a child, after what was ranked for those before it
      module _ (j : ℕ) (m : Member j (children x)) where
        earlier : j < i
        earlier = child-earlier t a.state.shaped a.there j m

        pub child-asks : {s1 : List ℕ} {r : ℕ} → State t table s1 r → Later s s1 → AsksWalk t table s1 r j
        child-asks {s1} st l = record {
          state = st;
          there = omega (arith, earlier, a.there);
          follows =
              leads-map p table a.state.shaped (Follows t table s) (Follows t table s1) (follow_less t table s s1 l) j
              (member-each (Leads t table (Follows t table s)) (children x) ((by-children (Follows t table s)).0 a.follows) j m);
        }

        pub child_less : {s1 : List ℕ} {r : ℕ} → State t table s1 r → Later s s1 → zeros s1 * 4097 + (j + 1) < zeros s * 4097 + (i + 1)
        child_less {s1} st l = omega (arith, earlier, zeros-later s s1 (st.size ∙ sym a.state.size) l)

      still-ranked : (s1 s2 : List ℕ) → Later s1 s2 → (j : ℕ) → Ranked s1 j → Ranked s2 j
      still-ranked s1 s2 l j h = leads-map p table a.state.shaped (λ u. 2 ≤ get_or s1 u 0) (λ u. 2 ≤ get_or s2 u 0) (later-ranked s1 s2 l) j h

      abbrev S : Shaped p
      S = a.state.shaped

      abbrev T : i < t.node_count
      T = a.there

      -- the first child, then the second, then the third, each after what was ranked for those before it
      module _ {j0 : ℕ} (q0 : j0 ≡ c0_in t.nodes i) where
        pub asks0 : AsksWalk t table s done j0
        asks0 = child-asks j0 (first-child t S T ce some q0) a.state (later_refl s)

        pub less0 : zeros s * 4097 + (j0 + 1) < zeros s * 4097 + (i + 1)
        less0 = child_less j0 (first-child t S T ce some q0) a.state (later_refl s)

        module _ {s1 : List ℕ} {r1 : Option ℕ} (g1 : Gives t table s s1 r1 (Ranked s1 j0)) {d1 : ℕ} (n1 : r1 ≡ Some d1) where
          k1 : Ranks t table s s1 d1 (Ranked s1 j0)
          k1 = ranked-some t table g1 n1

          pub one-gives : c ≡ 1 → Gives t table s s1 (Some d1) (Ranked s1 i)
          one-gives h = inr (
            d1,
            refl,
            record {
              state = k1.state;
              later = k1.later;
              goal = (by-children (λ u. 2 ≤ get_or s1 u 0)).1 (rw (one-child t S T ce h) (subst (Ranked s1) q0 k1.goal, tt));
            },
          )

          module _ (more1 : c ≡ 1 → ⊥) {j1 : ℕ} (q1 : j1 ≡ c1_in t.nodes i) where
            pub asks1 : AsksWalk t table s1 d1 j1
            asks1 = child-asks j1 (second-child t S T ce some more1 q1) k1.state k1.later

            pub less1 : zeros s1 * 4097 + (j1 + 1) < zeros s * 4097 + (i + 1)
            less1 = child_less j1 (second-child t S T ce some more1 q1) k1.state k1.later

            module _ {s2 : List ℕ} {r2 : Option ℕ} (g2 : Gives t table s1 s2 r2 (Ranked s2 j1)) {d2 : ℕ} (n2 : r2 ≡ Some d2) where
              k2 : Ranks t table s1 s2 d2 (Ranked s2 j1)
              k2 = ranked-some t table g2 n2

              later2 : Later s s2
              later2 = later_trans s s1 s2 k1.later k2.later

              pub two-gives : c ≡ 2 → Gives t table s s2 (Some d2) (Ranked s2 i)
              two-gives h = inr (
                d2,
                refl,
                record {
                  state = k2.state;
                  later = later2;
                  goal =
                      (by-children (λ u. 2 ≤ get_or s2 u 0)).1
                      (rw (two-children t S T ce h) (subst (Ranked s2) q0 (still-ranked s1 s2 k2.later j0 k1.goal), (subst (Ranked s2) q1 k2.goal, tt)));
                },
              )

              module _ (more2 : c ≡ 2 → ⊥) {j2 : ℕ} (q2 : j2 ≡ c2_in t.nodes i) where
                pub asks2 : AsksWalk t table s2 d2 j2
                asks2 = child-asks j2 (third-child t S T ce some more1 more2 q2) k2.state later2

                pub less2 : zeros s2 * 4097 + (j2 + 1) < zeros s * 4097 + (i + 1)
                less2 = child_less j2 (third-child t S T ce some more1 more2 q2) k2.state later2

                pub three-gives : {s3 : List ℕ} {r3 : Option ℕ} → Gives t table s2 s3 r3 (Ranked s3 j2) → Gives t table s s3 r3 (Ranked s3 i)
                three-gives (inl h) = inl h
                three-gives {s3 = s3} (inr (d3, e3, k)) = inr (
                  d3,
                  e3,
                  record {
                    state = k.state;
                    later = later_trans s s2 s3 later2 k.later;
                    goal =
                        (by-children (λ u. 2 ≤ get_or s3 u 0)).1
                        (rw (three-children t S T ce (third-count t S T ce some more1 more2)) (
                          subst (Ranked s3) q0 (still-ranked s2 s3 k.later j0 (still-ranked s1 s2 k2.later j0 k1.goal)),
                          (subst (Ranked s3) q1 (still-ranked s2 s3 k.later j1 k2.goal), (subst (Ranked s3) q2 k.goal, tt)),
                        ));
                  },
                )
