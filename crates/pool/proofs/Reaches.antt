-- From one round to the next of marking what an expression u reaches: what is marked is reached, and where the leaves of what is followed lead is marked.
-- Assumes nothing.
use Prim.Native.Nat.{ℕ, ◌+◌, ◌<◌, ◌≤◌}
use mathlib.Core.Path.{◌≡◌, refl, sym, ◌∙◌, ap, subst}
use mathlib.Core.Bool.{Bool, true, false}
use mathlib.Core.Option.{none, some}
use mathlib.Core.List.{List}
use mathlib.Core.Logic.{◌⊎◌, inl, inr, ⊎_elim}
use native.Mathlib.Omega.{arith}
use native.Mathlib.Nat.{eq-or-lt_of_le}
use lib.ListN.{length, get_or, set, replicate, length-set, length-replicate}
use lib.Dec.{eqb, ltb}
use borrow.Author.Tests.{lt-ltb, le-ltb, eqb-true, eqb-false, eq-eqb}
use Rattle.meaning.specs.Trees.{Placed, leaves}
use Rattle.meaning.proofs.Laws.Tests.{true-false}
use Rattle.pool.specs.Words.{root_in}
use Rattle.pool.specs.Pool.{Pool, root_of}
use Rattle.pool.specs.Trees.{tree}
use Rattle.pool.specs.Admission.{first, leads_to, Edge, Walk, LeadsBack, OnCycle}
use Rattle.pool.specs.Tabled.{Tables, tabled}
use Rattle.pool.specs.Ranking.{count_below, pending, Leads, Starts}
use Rattle.pool.specs.Cycles.{nearest, Spreads, reached_in, LeastOf}
use Rattle.pool.specs.Laws.First.{found-is, none_is}
use Rattle.pool.specs.Laws.Members.{member-each}
use Rattle.pool.specs.Laws.Tabled.{expression-count, root-at}
use Rattle.pool.specs.Laws.Cycles.{Reaches}
use Rattle.pool.proofs.Counts.{count_less}
use Rattle.pool.specs.Laws.Leads.{LeadsTo, leads-map}
use Rattle.pool.specs.Laws.Nodes.{source, root-inside, leads-there}
use Rattle.pool.proofs.Ranks.{at_same, at_other}
use Rattle.pool.proofs.AllRanks.{zero-at}
use Rattle.pool.proofs.Marks.{least-none, least-same, least_more, LedBy, nearest-is, Led, After, marked-is}

-- what looking for a reached expression finds
pub found-one : (s : List ℕ) (m : ℕ) {e : ℕ} → some e ≡ first (reached_in s) m → (e < m) × (get_or s e 0 ≡ 1)
found-one s m {e} h = let f = found-is (reached_in s) 0 m e (sym h) in (omega (arith, f.high), eqb-true _ _ f.holds)

pub none-one : (s : List ℕ) (m : ℕ) → none ≡ first (reached_in s) m → (e : ℕ) → e < m → get_or s e 0 ≡ 1 → ⊥
none-one s m h e l q = true-false (eq-eqb _ _ q) (none_is (reached_in s) 0 m (sym h) e (omega arith) (omega arith))

module _ (t : Tables) (table : List ℕ) where
  abbrev p : Pool
  p = tabled t

  abbrev leaves_at : ℕ → List Placed
  leaves_at e = leaves (tree p (root_of p e))

  -- the leaves of what is followed that lead to u
  abbrev Back : ℕ → List ℕ → ℕ → Type 0
  Back u s n = (e : ℕ) × (2 ≤ get_or s e 0) × LedBy table u (leaves_at e) n

  -- what stands in the marks of u, and the least of b0 and of those leaves
  pub record Reach (u b0 : ℕ) (s : List ℕ) (b : ℕ) : Type 0 where
    pub size : length s ≡ 512
    pub begun : 1 ≤ get_or s u 0
    pub there : (v : ℕ) → 1 ≤ get_or s v 0 → v < t.expression_count
    pub sound : (v : ℕ) → 1 ≤ get_or s v 0 → Reaches p table u v
    pub closed : (e : ℕ) → 2 ≤ get_or s e 0 → Leads t table (λ v. 1 ≤ get_or s v 0) (root_of p e)
    pub least : LeastOf (Back u s) b0 b

  -- ── all expressions ────────────────────────────────────────────────────────
  -- the leaves that lead back to an expression below e
  abbrev pub BackBelow : ℕ → ℕ → Type 0
  BackBelow e n = (u : ℕ) × (u < e) × LeadsBack p table u n

  pub none-back : (b : ℕ) → LeastOf (BackBelow 0) b b
  none-back b = least-none (BackBelow 0) b (λ n q. omega (arith, q.1))

  pub one-back : {e b r r' : ℕ} → LeastOf (BackBelow e) b r → LeastOf (LeadsBack p table e) r r' → LeastOf (BackBelow (e + 1)) b r'
  one-back {e} h k =
      least_more (BackBelow e) (LeadsBack p table e) (BackBelow (e + 1))
      (λ n q. ⊎_elim (λ z. inr (subst (λ u. LeadsBack p table u n) z q.2)) (λ z. inl (q.0, z, q.2)) (eq-or-lt_of_le (let z : q.0 ≤ e = omega (arith, q.1) in z)))
      (λ n q. (q.0, omega (arith, q.1), q.2)) (λ n q. (e, omega arith, q)) h k

  module _ (a : Starts t table) where
    abbrev leads_in : {e : ℕ} → e < t.expression_count → LeadsTo p table a.shaped (λ v. v < t.expression_count) (root_of p e)
    leads_in {e} l = leads-there t a.shaped table a.tabulated (root_of p e) (root-inside t a.shaped l)

    led-there : {e : ℕ} → e < t.expression_count → {v : ℕ} → Led table (leaves_at e) v → v < t.expression_count
    led-there {e} l {v} (w, h, q) =
        member-each (λ w. (v : ℕ) → leads_to table w ≡ some v → v < t.expression_count) (leaves_at e) (leads_in l) w h v q

    module _ (u : ℕ) (here : u < t.expression_count) where
      abbrev pub only : List ℕ
      only = set (replicate 512 0) u 1

      room : u < length {A = ℕ} (replicate 512 0)
      room = omega (arith, here, a.few_expressions, length-replicate {A = ℕ} 512 0)

      only_u : (v : ℕ) → ((v ≡ u) × (get_or only v 0 ≡ 1)) ⊎ (get_or only v 0 ≡ 0)
      only_u v = go (eqb v u) refl
        where
          go : (c : Bool) → eqb v u ≡ c → ((v ≡ u) × (get_or only v 0 ≡ 1)) ⊎ (get_or only v 0 ≡ 0)
          go true e = let q = eqb-true v u e in inl (q, ap (λ j. get_or only j 0) q ∙ at_same (replicate 512 0) u 1 room)
          go false e = inr (at_other (replicate 512 0) u 1 room v (eqb-false v u e) ∙ zero-at 512 v)

      not-followed : (v : ℕ) → 2 ≤ get_or only v 0 → ⊥
      not-followed v h = ⊎_elim (λ q. omega (arith, q.1)) (λ q. omega (arith, q)) (only_u v)

      pub begin : (b0 : ℕ) → Reach u b0 only b0
      begin b0 = record {
        size = simp length-set (length-replicate {A = ℕ} 512 0);
        begun = omega (arith, at_same (replicate 512 0) u 1 room);
        there = λ v h. ⊎_elim (λ q. subst (λ j. j < t.expression_count) (sym q.0) here) (λ q. absurd (omega (arith, q))) (only_u v);
        sound = λ v h. ⊎_elim (λ q. inl (sym q.0)) (λ q. absurd (omega (arith, q))) (only_u v);
        closed = λ e h. absurd (not-followed e h);
        least = least-none (Back u only) b0 (λ n q. not-followed q.0 q.1);
      }

    module _ {u b0 : ℕ} where
      -- a round: the leaves of a reached expression are marked
      module _ {s : List ℕ} {b : ℕ} (h : Reach u b0 s b) {e : ℕ} (f : some e ≡ first (reached_in s) t.expression_count) where
        l : e < t.expression_count
        l = (found-one s t.expression_count f).0

        one : get_or s e 0 ≡ 1
        one = (found-one s t.expression_count f).1

        abbrev s1 : List ℕ
        s1 = set s e 2

        inside : e < length s
        inside = omega (arith, l, h.size, a.few_expressions)

        at-e : get_or s1 e 0 ≡ 2
        at-e = at_same s e 2 inside

        -- what stood at v
        before : (v : ℕ) → ((v ≡ e) × (get_or s1 v 0 ≡ 2) × (get_or s v 0 ≡ 1)) ⊎ (get_or s1 v 0 ≡ get_or s v 0)
        before v = go (eqb v e) refl
          where
            go : (c : Bool) → eqb v e ≡ c → ((v ≡ e) × (get_or s1 v 0 ≡ 2) × (get_or s v 0 ≡ 1)) ⊎ (get_or s1 v 0 ≡ get_or s v 0)
            go true z = let q = eqb-true v e z in inl (q, ap (λ j. get_or s1 j 0) q ∙ at-e, ap (λ j. get_or s j 0) q ∙ one)
            go false z = inr (at_other s e 2 inside v (eqb-false v e z))

        module _ {s2 : List ℕ} (k : After table (leaves_at e) s1 s2) where
          kept : (v : ℕ) → 1 ≤ get_or s1 v 0 → get_or s2 v 0 ≡ get_or s1 v 0
          kept v i = ⊎_elim (λ q. q) (λ q. absurd (omega (arith, q.0))) (k.grown v)

          old : (v : ℕ) → 1 ≤ get_or s v 0 → 1 ≤ get_or s2 v 0
          old v i =
              let j : 1 ≤ get_or s1 v 0 = ⊎_elim (λ q. omega (arith, q.1)) (λ q. omega (arith, q)) (before v) in
              omega (arith, kept v j)

          old-followed : (v : ℕ) → 2 ≤ get_or s v 0 → 2 ≤ get_or s2 v 0
          old-followed v i =
              let j : 2 ≤ get_or s1 v 0 = ⊎_elim (λ q. omega (arith, q.1)) (λ q. omega (arith, q)) (before v) in
              omega (arith, kept v (omega arith))

          now-followed : 2 ≤ get_or s2 e 0
          now-followed = omega (arith, at-e, kept e (omega (arith, at-e)))

          new : (v : ℕ) → 1 ≤ get_or s2 v 0 → (1 ≤ get_or s v 0) ⊎ Led table (leaves_at e) v
          new v i = ⊎_elim (λ q. inl (⊎_elim (λ z. omega (arith, z.2)) (λ z. omega (arith, q, z)) (before v))) (λ q. inr q.2) (k.grown v)

          followed : (v : ℕ) → 2 ≤ get_or s2 v 0 → (v ≡ e) ⊎ (2 ≤ get_or s v 0)
          followed v i = ⊎_elim (λ q. ⊎_elim (λ z. inl z.0) (λ z. inr (omega (arith, q, z))) (before v)) (λ q. absurd (omega (arith, q.1))) (k.grown v)

          led-reached : (v : ℕ) → Led table (leaves_at e) v → Reaches p table u e → Reaches p table u v
          led-reached v (w, m, q) r =
              let d : Edge p table e v = record { source = source t a.shaped l; leaf = w; stands = m; leads = q } in
              inr (⊎_elim (λ z. subst (λ j. Walk p table j v) (sym z) (Walk.one d)) (λ z. Walk.more z d) r)

          now-closed : (v : ℕ) → (v ≡ e) ⊎ (2 ≤ get_or s v 0) → Leads t table (λ v. 1 ≤ get_or s2 v 0) (root_of p v)
          now-closed v (inl q) = subst (λ j. Leads t table (λ v. 1 ≤ get_or s2 v 0) (root_of p j)) (sym q) k.all
          now-closed v (inr i) = leads-map p table a.shaped (λ v. 1 ≤ get_or s v 0) (λ v. 1 ≤ get_or s2 v 0) old (root_of p v) (h.closed v i)

          cut : (n : ℕ) → Back u s2 n → Back u s n ⊎ LedBy table u (leaves_at e) n
          cut n (g, i, q) = ⊎_elim (λ z. inr (subst (λ j. LedBy table u (leaves_at j) n) z q)) (λ z. inl (g, z, q)) (followed g i)

          next : {b2 : ℕ} → b2 ≡ nearest table u (leaves_at e) b → Reach u b0 s2 b2
          next {b2} z = record {
            size = k.size ∙ simp length-set h.size;
            begun = old u h.begun;
            there = λ v i. ⊎_elim (λ q. h.there v q) (λ q. led-there l q) (new v i);
            sound = λ v i. ⊎_elim (λ q. h.sound v q) (λ q. led-reached v q (h.sound e (omega (arith, one)))) (new v i);
            closed = λ v i. now-closed v (followed v i);
            least =
                least_more (Back u s) (LedBy table u (leaves_at e)) (Back u s2) cut (λ n q. (q.0, old-followed q.0 q.1, q.2)) (λ n q. (e, now-followed, q)) h.least
                (rw z (nearest-is table u (leaves_at e) b));
          }

          fewer : count_below (pending s2) t.expression_count < count_below (pending s) t.expression_count
          fewer =
              let z =
              count_less (pending s) (pending s2) t.expression_count e l (lt-ltb (get_or s e 0) 2 (omega (arith, one))) (le-ltb (get_or s2 e 0) 2 now-followed)
              (λ j n.
              let q = at_other s e 2 inside j n in
              ⊎_elim (λ i. ap (λ n. ltb n 2) (sym (i ∙ q))) (λ i. lt-ltb (get_or s j 0) 2 (omega (arith, q, i.0)) ∙ sym (lt-ltb (get_or s2 j 0) 2 (omega (arith, i.1)))) (k.grown j)) in
              omega arith

        module _ {r : ℕ} (q : r ≡ root_in t.expressions e) {s2 : List ℕ} {b2 : ℕ} (g : Spreads table u (leaves (tree p r)) s1 b s2 b2) where
          is-root : r ≡ root_of p e
          is-root = q ∙ sym (root-at t e l)

          after : After table (leaves_at e) s1 s2
          after =
              rw (g.marks, is-root)
              (marked-is table (leaves_at e) s1
              (subst (λ n. LeadsTo p table a.shaped (λ v. v < n) (root_of p e)) (sym (let z : length s1 ≡ 512 = simp length-set h.size in z))
              (leads-map p table a.shaped (λ v. v < t.expression_count) (λ v. v < 512) (λ v i. omega (arith, a.few_expressions)) (root_of p e) (leads_in l))))

          pub round : Reach u b0 s2 b2
          round = next after (g.least ∙ ap (λ j. nearest table u (leaves (tree p j)) b) is-root)

          pub round_less : count_below (pending s2) t.expression_count < count_below (pending s) t.expression_count
          round_less = fewer after

      -- nothing is left to follow
      module _ {s : List ℕ} {b : ℕ} (h : Reach u b0 s b) (quiet : (e : ℕ) → e < t.expression_count → get_or s e 0 ≡ 1 → ⊥) where
        all-followed : (v : ℕ) → 1 ≤ get_or s v 0 → 2 ≤ get_or s v 0
        all-followed v i = let n = quiet v (h.there v i) in let z : get_or s v 0 ≡ 1 → ⊥ = n in omega arith

        edge-reached : {e v : ℕ} → 1 ≤ get_or s e 0 → Edge p table e v → 1 ≤ get_or s v 0
        edge-reached {e} {v} i d =
            member-each (λ w. (v : ℕ) → leads_to table w ≡ some v → 1 ≤ get_or s v 0) (leaves_at e) (h.closed e (all-followed e i)) d.leaf d.stands v d.leads

        walk-reached : {e v : ℕ} → 1 ≤ get_or s e 0 → Walk p table e v → 1 ≤ get_or s v 0
        walk-reached i (Walk.one d) = edge-reached i d
        walk-reached i (Walk.more w d) = edge-reached (walk-reached i w) d

        reached : {v : ℕ} → Reaches p table u v → 1 ≤ get_or s v 0
        reached (inl q) = subst (λ j. 1 ≤ get_or s j 0) q h.begun
        reached (inr w) = walk-reached h.begun w

        pub finish : LeastOf (LeadsBack p table u) b0 b
        finish =
            least-same (Back u s) (LeadsBack p table u)
            (λ n q.
            let i : 1 ≤ get_or s q.0 0 = omega (arith, q.1) in
            record { expression = q.0; source = source t a.shaped (h.there q.0 i); leaf = q.2.0; stands = q.2.1; leads = q.2.2; back = h.sound q.0 i })
            (λ n q. (q.expression, all-followed q.expression (reached q.back), (q.leaf, q.stands, q.leads))) h.least

    -- ── all expressions ──────────────────────────────────────────────────────
    pub all_back : {e b r : ℕ} → t.expression_count ≤ e → LeastOf (BackBelow e) b r → LeastOf (OnCycle p table) b r
    all_back {e} l h =
        least-same (BackBelow e) (OnCycle p table) (λ n q. (q.0, q.2))
        (λ n q.
        let s = subst (λ k. q.1.expression < k) (expression-count t) q.1.source in
        let i = led-there s (_, q.1.stands, q.1.leads) in
        (q.0, omega (arith, i), q.1)) h
