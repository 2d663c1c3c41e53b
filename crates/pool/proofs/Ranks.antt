-- From one state of ranking to the next, with no word of the code.
-- Assumes nothing.
use Prim.Native.Nat.{ℕ, zero, suc, ◌+◌, ◌*◌, ◌<◌, ◌≤◌}
use mathlib.Core.Path.{◌≡◌, refl, sym, ◌∙◌, ap, subst}
use mathlib.Core.Bool.{Bool, true, false}
use mathlib.Core.Option.{some}
use mathlib.Core.List.{List}
use mathlib.Core.Logic.{◌⊎◌, inl, inr, ⊎_elim}
use native.Mathlib.Omega.{arith}
use lib.ListN.{length, get_or, set, length-set}
use lib.Seq.{get_or-set_same, get_or-set_other}
use lib.Dec.{eqb}
use borrow.Author.Tests.{lt-ltb, le-ltb, eqb-true, eqb-false}
use Rattle.std.specs.Prelude.{Option, Some, None}
use Rattle.meaning.specs.Trees.{Placed, leaves, Member}
use Rattle.meaning.proofs.Laws.Tests.{each_both}
use Rattle.pool.specs.Words.{root_in}
use Rattle.pool.specs.Pool.{Pool, root_of}
use Rattle.pool.specs.Trees.{tree}
use Rattle.pool.specs.Admission.{leads_to, Edge, Walk, ClosedWalk}
use Rattle.pool.specs.Tabled.{Tables, tabled}
use Rattle.pool.specs.Ranking.{count_below, pending, zeros, Later, Leads, Sound, State, Follows, AsksVisit, AsksWalk, Ranks, Gives}
use Rattle.pool.specs.Laws.Members.{each_member}
use Rattle.pool.specs.Laws.Tabled.{root-at}
use Rattle.pool.proofs.Counts.{zeros-set, count_same, count_less}
use Rattle.pool.specs.Laws.Leads.{leads-map}
use Rattle.pool.specs.Laws.Nodes as Nodes

-- the table of ranks with one entry changed
module _ (s : List ℕ) (e v : ℕ) (h : e < length s) where
  pub at_same : get_or (set s e v) e 0 ≡ v
  at_same = get_or-set_same s e v 0 h

  pub at_other : (j : ℕ) → (j ≡ e → ⊥) → get_or (set s e v) j 0 ≡ get_or s j 0
  at_other j n = get_or-set_other s e j v 0 n

pub later_refl : (s : List ℕ) → Later s s
later_refl s e = inl refl

pub later_trans : (s s' s'' : List ℕ) → Later s s' → Later s' s'' → Later s s''
later_trans s s' s'' f g e = go (f e) (g e)
  where
    go :
        (get_or s' e 0 ≡ get_or s e 0) ⊎ ((get_or s e 0 ≡ 0) × (2 ≤ get_or s' e 0)) → (get_or s'' e 0 ≡ get_or s' e 0) ⊎ ((get_or s' e 0 ≡ 0) × (2 ≤ get_or s'' e 0)) →
        (get_or s'' e 0 ≡ get_or s e 0) ⊎ ((get_or s e 0 ≡ 0) × (2 ≤ get_or s'' e 0))
    go (inl p) (inl q) = inl (q ∙ p)
    go (inl p) (inr q) = inr (sym p ∙ q.0, q.1)
    go (inr p) (inl q) = inr (p.0, omega (arith, p.1, q))
    go (inr p) (inr q) = absurd (omega (arith, p.1, q.0))

-- what is ranked stays ranked; what is being followed was so before
pub later-ranked : (s s' : List ℕ) → Later s s' → (u : ℕ) → 2 ≤ get_or s u 0 → 2 ≤ get_or s' u 0
later-ranked s s' f u h = ⊎_elim (λ q. omega (arith, q)) (λ q. q.1) (f u)

pub later-followed : (s s' : List ℕ) → Later s s' → (g : ℕ) → get_or s' g 0 ≡ 1 → get_or s g 0 ≡ 1
later-followed s s' f g h = ⊎_elim (λ q. sym q ∙ h) (λ q. absurd (omega (arith, q.1))) (f g)

module _ (t : Tables) (table : List ℕ) where
  abbrev p : Pool
  p = tabled t

  -- as many are ranked as there are, at most
  pub few-ranked : {s : List ℕ} {done : ℕ} → State t table s done → done ≤ 512
  few-ranked {s} a = omega (arith, a.counted, a.few_expressions)

  root-there : {s : List ℕ} {done e : ℕ} → AsksVisit t table s done e → {r : ℕ} → r ≡ root_in t.expressions e → r < t.node_count
  root-there a q = Nodes.root-there t a.state.shaped a.there q

  pub follow_less : (s s' : List ℕ) → Later s s' → (u : ℕ) → Follows t table s u → Follows t table s' u
  follow_less s s' f u h g k = h g (later-followed s s' f g k)

  -- an answer that is no cycle's, and one that is
  pub ranked-some : {s s' : List ℕ} {r : Option ℕ} {Goal : Type 0} → Gives t table s s' r Goal → {d : ℕ} → r ≡ Some d → Ranks t table s s' d Goal
  ranked-some (inl h) q = absurd (let z : ◌≡◌ {A = ℕ} 0 1 = cc in omega arith)
  ranked-some {s = s} {s' = s'} {r = r} {Goal = Goal} (inr h) {d = d} q = let e : h.0 ≡ d = cc in subst (λ j. Ranks t table s s' j Goal) e h.2

  pub cycle-is : {s s' : List ℕ} {r : Option ℕ} {Goal : Type 0} → Gives t table s s' r Goal → r ≡ None → ClosedWalk p table
  cycle-is (inl h) q = h.1
  cycle-is (inr h) q = absurd (let z : ◌≡◌ {A = ℕ} 0 1 = cc in omega arith)

  pub few-after : {s s' : List ℕ} {r : Option ℕ} {Goal : Type 0} → Gives t table s s' r Goal → {d : ℕ} → r ≡ Some d → d ≤ 512
  few-after g q = few-ranked (ranked-some g q).state

  pub still : {s : List ℕ} {done : ℕ} {Goal : Type 0} → State t table s done → Goal → Gives t table s s (Some done) Goal
  still {s} {done} a g = inr (done, refl, record { state = a; later = later_refl s; goal = g })

  -- ── visit ──────────────────────────────────────────────────────────────────
  module _ {s : List ℕ} {done e : ℕ} (a : AsksVisit t table s done e) where
    pub inside : e < length s
    inside = omega (arith, a.there, a.state.few_expressions, a.state.size)

    pub back-again : get_or s e 0 ≡ 1 → ClosedWalk p table
    back-again h = (e, a.follows e h)

    module _ (n : get_or s e 0 < 2) (m : get_or s e 0 ≡ 1 → ⊥) where
      pub not-reached : get_or s e 0 ≡ 0
      not-reached = go (get_or s e 0) refl
        where
          go : (v : ℕ) → get_or s e 0 ≡ v → get_or s e 0 ≡ 0
          go zero q = q
          go (suc zero) q = absurd (m q)
          go (suc (suc v)) q = absurd (omega (arith, n, q))

      abbrev pub s1 : List ℕ
      s1 = set s e 1

      ranked-before : (b : ℕ) → 2 ≤ get_or s1 b 0 → (2 ≤ get_or s b 0) × (get_or s1 b 0 ≡ get_or s b 0)
      ranked-before b h = go (eqb b e) refl
        where
          go : (c : Bool) → eqb b e ≡ c → (2 ≤ get_or s b 0) × (get_or s1 b 0 ≡ get_or s b 0)
          go true q = absurd (let k : get_or s1 b 0 ≡ 1 = ap (λ j. get_or s1 j 0) (eqb-true b e q) ∙ at_same s e 1 inside in omega arith)
          go false q = let k = at_other s e 1 inside b (eqb-false b e q) in (omega arith, k)

      ranked-after : (u : ℕ) → 2 ≤ get_or s u 0 → get_or s1 u 0 ≡ get_or s u 0
      ranked-after u h = at_other s e 1 inside u (λ q. let k : get_or s u 0 ≡ 0 = ap (λ j. get_or s j 0) q ∙ not-reached in omega arith)

      same-pending : (j : ℕ) → pending s1 j ≡ pending s j
      same-pending j = go (eqb j e) refl
        where
          go : (c : Bool) → eqb j e ≡ c → pending s1 j ≡ pending s j
          go true q =
              let k : get_or s1 j 0 ≡ 1 = ap (λ i. get_or s1 i 0) (eqb-true j e q) ∙ at_same s e 1 inside in
              let z : get_or s j 0 ≡ 0 = ap (λ i. get_or s i 0) (eqb-true j e q) ∙ not-reached in
              rw (k, z)
          go false q = rw (at_other s e 1 inside j (eqb-false j e q))

      entered-sound : Sound t table s1 done
      entered-sound = record {
        low = λ b l h. let k = ranked-before b h in omega (arith, k.1, a.state.sound.low b l k.0);
        falls = λ b l h.
            let k = ranked-before b h in
            leads-map p table a.state.shaped (λ u. (2 ≤ get_or s u 0) × (get_or s u 0 < get_or s b 0)) (λ u. (2 ≤ get_or s1 u 0) × (get_or s1 u 0 < get_or s1 b 0))
            (λ u q. let z = ranked-after u q.0 in (omega (arith, q.0), omega (arith, q.1, k.1))) (root_of p b) (a.state.sound.falls b l k.0);
      }

      entered : State t table s1 done
      entered = record {
        shaped = a.state.shaped;
        few_nodes = a.state.few_nodes;
        few_expressions = a.state.few_expressions;
        tabulated = a.state.tabulated;
        size = simp length-set a.state.size;
        sound = entered-sound;
        counted = ap (λ c. done + c) (count_same (pending s1) (pending s) t.expression_count (λ j l. same-pending j)) ∙ a.state.counted;
      }

      edge : (w : Placed) → Member w (leaves (tree p (root_of p e))) → (u : ℕ) → leads_to table w ≡ some u → Edge p table e u
      edge w m u q = record { source = Nodes.source t a.state.shaped a.there; leaf = w; stands = m; leads = q }

      follow_on : (u : ℕ) → Edge p table e u → Follows t table s1 u
      follow_on u d g k = go (eqb g e) refl
        where
          go : (c : Bool) → eqb g e ≡ c → Walk p table g u
          go true q = subst (λ j. Walk p table j u) (sym (eqb-true g e q)) (Walk.one d)
          go false q = Walk.more (a.follows g (sym (at_other s e 1 inside g (eqb-false g e q)) ∙ k)) d

      pub enter : {r : ℕ} → r ≡ root_in t.expressions e → AsksWalk t table s1 done r
      enter {r} q =
          let z : root_of p e ≡ r = root-at t e a.there ∙ sym q in
          record {
            state = entered;
            there = root-there a q;
            follows =
                subst (Leads t table (Follows t table s1)) z
                (each_member (λ w. (u : ℕ) → leads_to table w ≡ some u → Follows t table s1 u) (leaves (tree p (root_of p e))) (λ w m u k. follow_on u (edge w m u k)));
          }

      pub enter_less : {r : ℕ} → r ≡ root_in t.expressions e → zeros s1 * 4097 + (r + 1) < zeros s * 4097
      enter_less q = omega (arith, zeros-set s e inside not-reached, root-there a q, a.state.few_nodes)

      -- its own rank
      module _ {s2 : List ℕ} {r before : ℕ} (q : r ≡ root_in t.expressions e) (k : Ranks t table s1 s2 before (Leads t table (λ u. 2 ≤ get_or s2 u 0) r)) where
        inside2 : e < length s2
        inside2 = omega (arith, inside, k.state.size, a.state.size)

        followed : get_or s2 e 0 ≡ 1
        followed = ⊎_elim (λ z. z ∙ at_same s e 1 inside) (λ z. absurd (omega (arith, z.0, at_same s e 1 inside))) (k.later e)

        abbrev pub s3 : List ℕ
        s3 = set s2 e (2 + before)

        at-e : get_or s3 e 0 ≡ 2 + before
        at-e = at_same s2 e (2 + before) inside2

        other_than_e : (j : ℕ) → 2 ≤ get_or s2 j 0 → get_or s3 j 0 ≡ get_or s2 j 0
        other_than_e j h = at_other s2 e (2 + before) inside2 j (λ z. omega (arith, ap (λ i. get_or s2 i 0) z ∙ followed))

        leaves-ranked : Leads t table (λ u. (2 ≤ get_or s3 u 0) × (get_or s3 u 0 < 2 + before)) (root_of p e)
        leaves-ranked =
            let z : r ≡ root_of p e = q ∙ sym (root-at t e a.there) in
            each_both
            (λ w. (u : ℕ) → leads_to table w ≡ some u → 2 ≤ get_or s2 u 0)
            (λ w. (u : ℕ) → leads_to table w ≡ some u → u < t.expression_count)
            (λ w. (u : ℕ) → leads_to table w ≡ some u → (2 ≤ get_or s3 u 0) × (get_or s3 u 0 < 2 + before))
            (λ w f g u d.
            let ranked = f u d in
            let same = other_than_e u ranked in
            (omega (arith, ranked, same), omega (arith, same, k.state.sound.low u (g u d) ranked)))
            (leaves (tree p (root_of p e)))
            (subst (Leads t table (λ u. 2 ≤ get_or s2 u 0)) z k.goal)
            (Nodes.leads-there t a.state.shaped table a.state.tabulated (root_of p e) (Nodes.root-inside t a.state.shaped a.there))

        ranked_in : (b : ℕ) → 2 ≤ get_or s3 b 0 → (b ≡ e) ⊎ ((2 ≤ get_or s2 b 0) × (get_or s3 b 0 ≡ get_or s2 b 0))
        ranked_in b h = go (eqb b e) refl
          where
            go : (c : Bool) → eqb b e ≡ c → (b ≡ e) ⊎ ((2 ≤ get_or s2 b 0) × (get_or s3 b 0 ≡ get_or s2 b 0))
            go true z = inl (eqb-true b e z)
            go false z = let y = at_other s2 e (2 + before) inside2 b (eqb-false b e z) in inr (omega arith, y)

        left-low : (b : ℕ) → b < t.expression_count → (b ≡ e) ⊎ ((2 ≤ get_or s2 b 0) × (get_or s3 b 0 ≡ get_or s2 b 0)) → get_or s3 b 0 < before + 1 + 2
        left-low b l (inl z) = omega (arith, ap (λ j. get_or s3 j 0) z ∙ at-e)
        left-low b l (inr z) = omega (arith, z.1, k.state.sound.low b l z.0)

        left-falls :
            (b : ℕ) → b < t.expression_count → (b ≡ e) ⊎ ((2 ≤ get_or s2 b 0) × (get_or s3 b 0 ≡ get_or s2 b 0)) →
            Leads t table (λ u. (2 ≤ get_or s3 u 0) × (get_or s3 u 0 < get_or s3 b 0)) (root_of p b)
        left-falls b l (inl z) =
            subst (λ j. Leads t table (λ u. (2 ≤ get_or s3 u 0) × (get_or s3 u 0 < get_or s3 j 0)) (root_of p j)) (sym z)
            (leads-map p table a.state.shaped (λ u. (2 ≤ get_or s3 u 0) × (get_or s3 u 0 < 2 + before)) (λ u. (2 ≤ get_or s3 u 0) × (get_or s3 u 0 < get_or s3 e 0))
            (λ u y. (y.0, omega (arith, y.1, at-e))) (root_of p e) leaves-ranked)
        left-falls b l (inr z) =
            leads-map p table a.state.shaped (λ u. (2 ≤ get_or s2 u 0) × (get_or s2 u 0 < get_or s2 b 0)) (λ u. (2 ≤ get_or s3 u 0) × (get_or s3 u 0 < get_or s3 b 0))
            (λ u y. let w = other_than_e u y.0 in (omega (arith, y.0), omega (arith, y.1, z.1))) (root_of p b) (k.state.sound.falls b l z.0)

        one_fewer : count_below (pending s2) t.expression_count ≡ suc (count_below (pending s3) t.expression_count)
        one_fewer =
            count_less (pending s2) (pending s3) t.expression_count e a.there (lt-ltb (get_or s2 e 0) 2 (omega (arith, followed))) (le-ltb (get_or s3 e 0) 2 (omega (arith, at-e)))
            (λ j n. rw (at_other s2 e (2 + before) inside2 j n))

        left : State t table s3 (before + 1)
        left = record {
          shaped = a.state.shaped;
          few_nodes = a.state.few_nodes;
          few_expressions = a.state.few_expressions;
          tabulated = a.state.tabulated;
          size = simp length-set k.state.size;
          sound = record { low = λ b l h. left-low b l (ranked_in b h); falls = λ b l h. left-falls b l (ranked_in b h) };
          counted = omega (arith, k.state.counted, one_fewer);
        }

        left-later : Later s s3
        left-later j = go (eqb j e) refl
          where
            go : (c : Bool) → eqb j e ≡ c → (get_or s3 j 0 ≡ get_or s j 0) ⊎ ((get_or s j 0 ≡ 0) × (2 ≤ get_or s3 j 0))
            go true z =
                let w = eqb-true j e z in
                inr (ap (λ i. get_or s i 0) w ∙ not-reached, omega (arith, ap (λ i. get_or s3 i 0) w ∙ at-e))
            go false z =
                let n = eqb-false j e z in
                let x = at_other s2 e (2 + before) inside2 j n in
                let y = at_other s e 1 inside j n in
                ⊎_elim (λ u. inl (x ∙ u ∙ y)) (λ u. inr (sym y ∙ u.0, omega (arith, x, u.1))) (k.later j)

        pub leave : Gives t table s s3 (Some (before + 1)) (2 ≤ get_or s3 e 0)
        leave = inr (before + 1, refl, record { state = left; later = left-later; goal = omega (arith, at-e) })
