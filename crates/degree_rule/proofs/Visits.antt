-- Visits of a node: entering, what each kind reads, two children one after the other, an expression at a leaf, and a product up to its splits.
-- Assumes nothing.
use Prim.Native.Nat.{ℕ, zero, suc, ◌+◌, ◌-◌, ◌<◌, ◌≤◌, max}
use mathlib.Core.Path.{◌≡◌, refl, sym, ◌∙◌, ap, ap₂, subst}
use mathlib.Core.Bool.{Bool, true, false, cond}
use mathlib.Core.Option.{none, some}
use mathlib.Core.List.{List}
use mathlib.Core.Logic.{◌⊎◌, inl, inr}
use native.Mathlib.Omega.{arith}
use lib.Dec.{eqb, ltb}
use lib.ListN.{get_or}
use borrow.Author.Tests.{ne_eqb, lt-ltb, le-ltb, le-leb, eqb-true, eqb-false, ltb-false}
use Rattle.meaning.specs.Refusals.{Refusal}
use Rattle.search_meaning.specs.Search.{Tally, Out, done, refused, Search, next, counted, Found, found, set_of, both, Reads, visit, pair, splits, cut_body, product, reference, body, body_in, free, member, insert}
use Rattle.kinds.specs.KindBytes as kind
use Rattle.kinds.specs.Range.{within}
use Rattle.frames.specs.Order.{node_limit, expression_limit}
use Rattle.frames.specs.Tables.{kind_in, id_in}
use Rattle.pool.specs.Words.{c0_in, c1_in, root_in}
use Rattle.pool.specs.Shaped.{Shaped}
use Rattle.pool.specs.Trees.{tree, forest}
use Rattle.pool.specs.Tabled.{Tables, tabled}
use Rattle.pool.specs.Ranking.{Tabling}
use Rattle.full_degrees.specs.Coded.{no_degree, coded}
use Rattle.full_degrees.specs.Shapes.{Rest, mul_is}
use Rattle.full_degrees.specs.Table.{F, full_at}
use Rattle.full_degrees.specs.Parts.{room, Part, left, right, only, named, lower, body_is, body_stands}
use Rattle.sets.specs.Members.{members, Good, Put}
use Rattle.std.specs.Prelude.{Some, None, Ok, Err}
use Rattle.degree_rule.specs.declared.reading.Stop.TheVariants.{BadKind, OverLimit}
use Rattle.degree_rule.specs.Tallies.{Counts, tally_of, Held, Entered, Cuts}
use Rattle.degree_rule.specs.Readings.{Reading, reading_of, found_in, said_of, degree_in, is_degree, Passed}
use Rattle.degree_rule.specs.Visiting.{column_in, degree_op, B, R, T, visited, read_at, split, paired, referenced, Holds, Gives, Asks, AsksProduct, AsksPair, AsksReference}
use Rattle.degree_rule.specs.Laws.{held_same, held_then, stuck, no-low, pair-said, reading-low, to-code}
use Rattle.degree_rule.proofs.Rules.{coded_none, coded-low, coded-high, free-is, rule-constant, rule-exp, rule-eval, rule-q, rule-quotient, rule-muladd, rule-column, rule-sum, rule-single}

-- ── kinds ────────────────────────────────────────────────────────────────────
pub five : (k : ℕ) → kind.mul ≤ k → (k ≡ kind.mul → ⊥) → ((k ≡ kind.muladd) ⊎ (k ≡ kind.q) → ⊥) → kind.addc ≤ k
five k h a b = let z : k ≡ 4 → ⊥ = λ q. b (inl q) in omega arith

pub twenty : (k : ℕ) → kind.exp ≤ k → (k ≡ kind.exp → ⊥) → ((k ≡ kind.muladd) ⊎ (k ≡ kind.q) → ⊥) → kind.number ≤ k
twenty k h a b = let z : k ≡ 19 → ⊥ = λ q. b (inr q) in omega arith

-- ── what holds, after a call ─────────────────────────────────────────────────
pub holds-next : {t : Tables} {f s : List ℕ} {y : Counts} {m : ℕ} → Holds t f s y m → {s1 : List ℕ} {y1 : Counts} → Good s1 → Held y y1 → {m1 : ℕ} → m1 ≤ y.degree → Holds t f s1 y1 m1
holds-next h g e l = record { fulls = h.fulls; good = g; whole = e.whole; low = omega (arith, e.degree, h.low); within = omega (arith, e.degree, l) }

-- the same rule after a call
pub rule-held : (t : Tables) (s s1 : List ℕ) {y y1 : Counts} → Held y y1 → (n i : ℕ) → T t s1 y1 n i ≡ T t s y n i
rule-held t s s1 e n i = ap₂ (λ a b. R t a b n (tree (tabled t) i)) e.limit e.degree

-- ── entering ─────────────────────────────────────────────────────────────────
module _ {t : Tables} {rank : ℕ → ℕ} {f s : List ℕ} {y : Counts} {levels m i : ℕ} (a : Asks t rank f s y levels m i) {b : Bool} {y1 : Counts} (e : Entered y b y1) where
  pub enter-asks : Asks t rank f s y1 levels m i
  enter-asks = record { stands = a.stands; holds = holds-next a.holds a.holds.good e.held a.holds.within }

  visit-by : (c : Bool) → b ≡ c → (n : ℕ) → visited t s y m i n ≡ cond c (T t s y n i (members s) m (counted (tally_of y))) (refused Refusal.visits (tally_of y).visits)
  unfolding visited tally_of
  visit-by c z n = rw (sym e.may ∙ z)

  pub enter-over : b ≡ false → Gives (visited t s y m i) levels m y s y1 (Err OverLimit)
  enter-over z =
      let k : tally_of y1 ≡ tally_of y = e.is ∙ ap (λ c. cond c (counted (tally_of y)) (tally_of y)) z in
      record { same = λ n h. ap (λ (w : Tally). refused Refusal.visits w.visits) k ∙ sym (visit-by false z n); good = a.holds.good; held = e.held; low = omega arith }

  -- what is left is to read the node
  pub lift : b ≡ true → {s2 : List ℕ} {y2 : Counts} {r : Reading} → Gives (read_at t s y1 m i) levels m y1 s2 y2 r → Gives (visited t s y m i) levels m y s2 y2 r
  unfolding read_at
  lift z g =
      let k : tally_of y1 ≡ counted (tally_of y) = e.is ∙ ap (λ c. cond c (counted (tally_of y)) (tally_of y)) z in
      record {
        same = λ n h. g.same n h ∙ ap₂ (λ (x : Reads) w. x (members s) m w) (rule-held t s s e.held n i) k ∙ sym (visit-by true z n);
        good = g.good;
        held = held_then e.held g.held;
        low = g.low;
      }

-- ── reading a node, by its kind ──────────────────────────────────────────────
module _ {v l x : List ℕ} {c c' : ℕ} {rank : ℕ → ℕ} {f s : List ℕ} {y : Counts} {levels m i : ℕ} (a : Asks (Tabling v l x c c') rank f s y levels m i) {k : ℕ} (ke : k ≡ kind_in v i) where
  abbrev t : Tables
  t = Tabling v l x c c'

  abbrev shape : Shaped (tabled t)
  shape = a.stands.world.starts.shaped

  abbrev there : i < t.node_count
  there = a.stands.there

  abbrev Read : Reading → List ℕ → Counts → Type 0
  Read r s' y' = Gives (read_at t s y m i) levels m y s' y' r

  -- nothing but the node itself
  here : {r : Reading} → ((n : ℕ) → said_of r s y ≡ read_at t s y m i n) → degree_in r ≤ m → Read r s y
  here h l = record { same = λ n g. h n; good = a.holds.good; held = held_same y a.holds.whole; low = l }

  pub read-constant : kind.number ≤ k → k ≤ kind.challenge → Read (Ok (Some 0)) s y
  unfolding read_at
  read-constant g h = here (λ n. sym (rule-constant t shape there (some y.limit) (F t) (B t y.limit y.degree n) (members s) m (tally_of y) (omega (arith, ke)) (omega (arith, ke)))) (omega arith)

  pub read-q : k ≡ kind.q → Read (Err BadKind) s y
  unfolding read_at
  read-q h = here (λ n. sym (rule-q t shape there (some y.limit) (F t) (B t y.limit y.degree n) (members s) m (tally_of y) (sym ke ∙ h))) (omega arith)

  pub read-muladd : k ≡ kind.muladd → Read (Err BadKind) s y
  unfolding read_at
  read-muladd h = here (λ n. sym (rule-muladd t shape there (some y.limit) (F t) (B t y.limit y.degree n) (members s) m (tally_of y) (sym ke ∙ h))) (omega arith)

  pub read-bad : (k ≡ kind.muladd) ⊎ (k ≡ kind.q) → Read (Err BadKind) s y
  read-bad (inl h) = read-muladd h
  read-bad (inr h) = read-q h

  pub read-late : kind.eval ≤ k → k ≤ kind.x_div_x_sub_w_xi → Read (Err BadKind) s y
  unfolding read_at
  read-late g h = go (eqb k kind.eval) refl
    where
      quotient : kind.x_div_x_sub_xi ≤ k → Read (Err BadKind) s y
      quotient u = here (λ n. sym (rule-quotient t shape there (some y.limit) (F t) (B t y.limit y.degree n) (members s) m (tally_of y) (omega (arith, ke)) (omega (arith, ke)))) (omega arith)

      evaluation : k ≡ kind.eval → Read (Err BadKind) s y
      evaluation u = here (λ n. sym (rule-eval t shape there (some y.limit) (F t) (B t y.limit y.degree n) (members s) m (tally_of y) (sym ke ∙ u))) (omega arith)

      go : (b : Bool) → eqb k kind.eval ≡ b → Read (Err BadKind) s y
      go true q = evaluation (eqb-true k kind.eval q)
      go false q = let z : k ≡ 23 → ⊥ = eqb-false k kind.eval q in quotient (omega arith)

  pub read-column : (k < 1) ⊎ (kind.neg < k) → Rest k (id_in v i) → {r : Reading} → r ≡ column_in m → Read r s y
  unfolding read_at
  read-column g h {r} q = rw q (go (ltb m 1) refl)
    where
      by : (n : ℕ) → T t s y n i (members s) m (tally_of y) ≡ cond (ltb m 1) (done none (tally_of y)) (done (found (members s) 1) (tally_of y))
      by n = rule-column t shape there (some y.limit) (F t) (B t y.limit y.degree n) (members s) m (tally_of y) (subst (λ c. (c < 1) ⊎ (kind.neg < c)) ke g) (subst (λ c. Rest c (id_in v i)) ke h)

      go : (b : Bool) → ltb m 1 ≡ b → Read (cond b (Ok None) (Ok (Some 1))) s y
      go true z = here (λ n. sym (by n ∙ ap (λ b. cond b (done none (tally_of y)) (done (found (members s) 1) (tally_of y))) z)) (omega arith)
      go false z = here (λ n. sym (by n ∙ ap (λ b. cond b (done none (tally_of y)) (done (found (members s) 1) (tally_of y))) z)) (ltb-false m 1 z)

  -- the kinds that are left: cm, const and x
  pub read-rest : (k < 1) ⊎ ((kind.neg < k) × (k < kind.exp)) ⊎ (kind.x_div_x_sub_w_xi < k) → (k ≡ kind.exp → ⊥) → ((k ≡ kind.muladd) ⊎ (k ≡ kind.q) → ⊥) → {r : Reading} → r ≡ column_in m → Read r s y
  read-rest (inl h) u w q = read-column (inl h) (record { exp = u; q = λ z. w (inr z); flat = inl (omega arith); quotient = inl (omega arith) }) q
  read-rest (inr (inl h)) u w q = read-column (inr h.0) (record { exp = u; q = λ z. w (inr z); flat = inl (omega (arith, h.1)); quotient = inl (omega (arith, h.1)) }) q
  read-rest (inr (inr h)) u w q = read-column (inr (omega arith)) (record { exp = u; q = λ z. w (inr z); flat = inr (omega arith); quotient = inr h }) q

  -- by another function
  by-other : {says : ℕ → Out Found} {m1 : ℕ} → ((n : ℕ) → says n ≡ read_at t s y m i n) → m1 ≤ m → {s2 : List ℕ} {y2 : Counts} {r : Reading} → Gives says levels m1 y s2 y2 r → Read r s2 y2
  by-other h u g = record { same = λ n w. g.same n w ∙ h n; good = g.good; held = g.held; low = omega (arith, g.low, u) }

  module _ (lo : 1 ≤ k) (hi : k ≤ kind.sub) where
    sum-op : degree_op (kind_in v i) ≡ max
    sum-op = let z : kind_in v i ≡ 3 → ⊥ = λ (q : kind_in v i ≡ 3). omega (arith, ke) in ap (λ b a c. cond b (a + c) (max a c)) (ne_eqb (kind_in v i) kind.mul z)

    pub sum-asks : AsksPair t rank f s y levels m m i
    sum-asks = record {
      stands = a.stands;
      low = omega (arith, ke);
      high = omega (arith, ke);
      left = a.holds;
      right = a.holds.within;
      within = subst (λ (δ : ℕ → ℕ → ℕ). δ m m ≤ y.degree) (sym sum-op) (omega (arith, a.holds.within));
    }

    pub read-sum : {s2 : List ℕ} {y2 : Counts} {r : Reading} → Gives (paired t s y m m i) levels (degree_op (kind_in v i) m m) y s2 y2 r → Read r s2 y2
    unfolding paired read_at
    read-sum = by-other
        (λ n.
        ap (λ δ. pair (some y.limit) δ (T t s y n (c0_in v i)) (T t s y n (c1_in v i)) (members s) m m (tally_of y)) sum-op
        ∙ sym (rule-sum t shape there (some y.limit) (F t) (B t y.limit y.degree n) (members s) m (tally_of y) (omega (arith, ke)) (omega (arith, ke))))
        (subst (λ (δ : ℕ → ℕ → ℕ). δ m m ≤ m) (sym sum-op) (omega arith))

  module _ (lo : kind.addc ≤ k) (hi : k ≤ kind.neg) {j : ℕ} (q : j ≡ c0_in v i) where
    pub one-part : Part a.stands j
    one-part = only a.stands (omega (arith, ke)) (omega (arith, ke)) q

    pub one-asks : Asks t rank f s y levels m j
    one-asks = record { stands = one-part.stands; holds = a.holds }

    pub read_one : {s2 : List ℕ} {y2 : Counts} {r : Reading} → Gives (visited t s y m j) levels m y s2 y2 r → Read r s2 y2
    unfolding visited read_at
    read_one = by-other
        (λ n.
        ap (λ j. visit (some y.limit) (T t s y n j) (some (members s)) m (tally_of y)) q
        ∙ sym (rule-single t shape there (some y.limit) (F t) (B t y.limit y.degree n) (members s) m (tally_of y) (omega (arith, ke)) (omega (arith, ke))))
        (omega arith)

  module _ (h : k ≡ kind.exp) {e : ℕ} (q : e ≡ id_in v i) where
    pub exp-asks : AsksReference t rank f s y levels m e
    exp-asks = record { world = a.stands.world; there = named a.stands (sym ke ∙ h) q; lower = lower a.stands (sym ke ∙ h) q; holds = a.holds }

    pub read-exp : {s2 : List ℕ} {y2 : Counts} {r : Reading} → Gives (referenced t s y m e) levels m y s2 y2 r → Read r s2 y2
    unfolding referenced read_at
    read-exp = by-other
        (λ n.
        ap (λ e. reference (some y.limit) (F t) (B t y.limit y.degree n) e (members s) m (tally_of y)) q
        ∙ sym (rule-exp t shape there (some y.limit) (F t) (B t y.limit y.degree n) (members s) m (tally_of y) (sym ke ∙ h)))
        (omega arith)

  pub product-asks : k ≡ kind.mul → AsksProduct t rank f s y levels m i
  product-asks h = record { asks = a; is = sym ke ∙ h }

-- ── two children ─────────────────────────────────────────────────────────────
module _ {v l x : List ℕ} {c c' : ℕ} {rank : ℕ → ℕ} {f s : List ℕ} {y : Counts} {levels lo hi i : ℕ} (a : AsksPair (Tabling v l x c c') rank f s y levels lo hi i) where
  abbrev tab : Tables
  tab = Tabling v l x c c'

  abbrev δ : ℕ → ℕ → ℕ
  δ = degree_op (kind_in v i)

  pub pair-room : i < node_limit
  pair-room = room a.stands

  module _ {j0 : ℕ} (q0 : j0 ≡ c0_in v i) where
    pub left-part : Part a.stands j0
    left-part = left a.stands a.low a.high q0

    pub left-asks : Asks tab rank f s y levels lo j0
    left-asks = record { stands = left-part.stands; holds = a.left }

    module _ {s1 : List ℕ} {y1 : Counts} {p : Reading} (g0 : Gives (visited tab s y lo j0) levels lo y s1 y1 p) where
      abbrev W : ℕ → Found → Search Found
      W n z = visit (some y.limit) (T tab s y n (c1_in v i)) (set_of z) hi

      -- both, from what the second gives after the first
      both-said :
          (n : ℕ) → levels ≤ n → (s2 : List ℕ) (y2 : Counts) (r : Reading) → said_of r s2 y2 ≡ next (said_of p s1 y1) (W n) →
          paired tab s y lo hi i n ≡ next (said_of r s2 y2) (λ z k. done (both δ (found_in p s1) z) k)
      unfolding paired visited
      both-said n h s2 y2 r e =
          let e0 : visit (some y.limit) (T tab s y n (c0_in v i)) (some (members s)) lo (tally_of y) ≡ said_of p s1 y1 =
          ap (λ j. visit (some y.limit) (T tab s y n j) (some (members s)) lo (tally_of y)) (sym q0) ∙ sym (g0.same n h) in
          ap (λ o. next o (λ x k. next (W n x k) (λ z k'. done (both δ x z) k'))) e0
          ∙ pair-said δ p s1 y1 (W n)
          ∙ ap (λ o. next o (λ z k. done (both δ (found_in p s1) z) k)) (sym e)

      pub pair-none : is_degree p ≡ false → {r : Reading} {y2 : Counts} → Passed p y1 r y2 → Gives (paired tab s y lo hi i) levels (δ lo hi) y s1 y2 r
      pair-none h {r} {y2} g = record {
        same = λ n u.
            let e : said_of r s1 y2 ≡ next (said_of p s1 y1) (W n) =
            g.same h (T tab s y n (c1_in v i)) hi s1 ∙ ap (λ b. next (said_of p s1 y1) (λ z. visit (some b) (T tab s y n (c1_in v i)) (set_of z) hi)) g0.held.limit in
            sym (both-said n u s1 y2 r e ∙ stuck r s1 y2 (λ z k. done (both δ (found_in p s1) z) k) (g.none h) (λ k. refl));
        good = g0.good;
        held = held_then g0.held g.held;
        low = no-low r (δ lo hi) (g.none h);
      }

      module _ {d0 : ℕ} (p0 : p ≡ Ok (Some d0)) {j1 : ℕ} (q1 : j1 ≡ c1_in v i) where
        pub right-part : Part a.stands j1
        right-part = right a.stands a.low a.high q1

        pub right-asks : Asks tab rank f s1 y1 levels hi j1
        right-asks = record { stands = right-part.stands; holds = holds-next a.left g0.good g0.held a.right }

        module _ {s2 : List ℕ} {y2 : Counts} {r : Reading} (g1 : Gives (visited tab s1 y1 hi j1) levels hi y1 s2 y2 r) where
          second-said : (n : ℕ) → levels ≤ n → said_of r s2 y2 ≡ next (said_of p s1 y1) (W n)
          unfolding visited
          second-said n h =
              g1.same n h
              ∙ ap (λ j. visit (some y1.limit) (T tab s1 y1 n j) (some (members s1)) hi (tally_of y1)) q1
              ∙ ap₂ (λ b (z : Reads). visit (some b) z (some (members s1)) hi (tally_of y1)) g0.held.limit (rule-held tab s s1 g0.held n (c1_in v i))
              ∙ ap (λ p. next (said_of p s1 y1) (W n)) (sym p0)

          pub second_none : is_degree r ≡ false → Gives (paired tab s y lo hi i) levels (δ lo hi) y s2 y2 r
          second_none h = record {
            same = λ n u. sym (both-said n u s2 y2 r (second-said n u) ∙ stuck r s2 y2 (λ z k. done (both δ (found_in p s1) z) k) h (λ k. refl));
            good = g1.good;
            held = held_then g0.held g1.held;
            low = no-low r (δ lo hi) h;
          }

          module _ {d1 : ℕ} (r0 : r ≡ Ok (Some d1)) where
            first-low : d0 ≤ lo
            first-low = subst (λ p. degree_in p ≤ lo) p0 g0.low

            second-low : d1 ≤ hi
            second-low = subst (λ p. degree_in p ≤ hi) r0 g1.low

            op-low : (b : Bool) → cond b (d0 + d1) (max d0 d1) ≤ cond b (lo + hi) (max lo hi)
            op-low true = omega (arith, first-low, second-low)
            op-low false = omega (arith, first-low, second-low)

            pub both-gives : {d : ℕ} → d ≡ δ d0 d1 → Gives (paired tab s y lo hi i) levels (δ lo hi) y s2 y2 (Ok (Some d))
            both-gives {d} e = record {
              same = λ n u.
                  sym (both-said n u s2 y2 r (second-said n u) ∙ ap₂ (λ r p. next (said_of r s2 y2) (λ z k. done (both δ (found_in p s1) z) k)) r0 p0
                  ∙ ap (λ d. done (found (members s2) d) (tally_of y2)) (sym e));
              good = g1.good;
              held = held_then g0.held g1.held;
              low = rw e (op-low (eqb (kind_in v i) kind.mul));
            }

            module _ {k : ℕ} (ke : k ≡ kind_in v i) where
              pub sum_fits : k ≡ kind.mul → d0 + d1 ≤ 17
              sum_fits h =
                  let z : lo + hi ≤ y.degree = subst (λ w. degree_op w lo hi ≤ y.degree) (sym ke ∙ h) a.within in
                  omega (arith, z, first-low, second-low, a.left.low)

              pub times-gives : k ≡ kind.mul → Gives (paired tab s y lo hi i) levels (δ lo hi) y s2 y2 (Ok (Some (d0 + d1)))
              times-gives h = both-gives (ap (λ w. degree_op w d0 d1) (sym h ∙ ke))

              pub larger-gives : (k ≡ kind.mul → ⊥) → {d : ℕ} → d ≡ max d0 d1 → Gives (paired tab s y lo hi i) levels (δ lo hi) y s2 y2 (Ok (Some d))
              larger-gives h e = both-gives (e ∙ sym (ap (λ b. cond b (d0 + d1) (max d0 d1)) (ne_eqb (kind_in v i) kind.mul (λ q. h (ke ∙ q)))))

              pub times-code : k ≡ kind.mul → Gives (paired tab s y lo hi i) levels (δ lo hi) y s2 y2 (reading_of (d0 + d1))
              times-code h = to-code (d0 + d1) (reading-low (d0 + d1) (sum_fits h)) (times-gives h)

              pub larger-code : (k ≡ kind.mul → ⊥) → {d : ℕ} → d ≡ max d0 d1 → Gives (paired tab s y lo hi i) levels (δ lo hi) y s2 y2 (reading_of d)
              larger-code h {d} e = to-code d (reading-low d (omega (arith, e, first-low, second-low, a.left.within, a.left.low, a.right))) (larger-gives h e)

-- ── an expression at a leaf ──────────────────────────────────────────────────
module _ {v l x : List ℕ} {c c' : ℕ} {rank : ℕ → ℕ} {f s : List ℕ} {y : Counts} {levels m e : ℕ} (a : AsksReference (Tabling v l x c c') rank f s y levels m e) where
  abbrev tb : Tables
  tb = Tabling v l x c c'

  abbrev Got : Reading → List ℕ → Counts → Type 0
  Got r s' y' = Gives (referenced tb s y m e) levels m y s' y' r

  pub exp-room : e < expression_limit
  exp-room = omega (arith, a.there, a.world.starts.few_expressions)

  pub some-levels : 1 ≤ levels
  some-levels = omega (arith, a.lower)

  pub ref-low : m < 1 → Got (Ok None) s y
  unfolding referenced
  ref-low h = record { same = λ n u. rw (lt-ltb m 1 h); good = a.holds.good; held = held_same y a.holds.whole; low = omega arith }

  module _ (h : 1 ≤ m) where
    pub ref-member : member e (members s) ≡ true → Got (Ok (Some 1)) s y
    unfolding referenced
    ref-member q = record { same = λ n u. rw (le-ltb m 1 h, q); good = a.holds.good; held = held_same y a.holds.whole; low = h }

    module _ (q : member e (members s) ≡ false) {d : ℕ} (dq : d ≡ y.degree) {r : ℕ} (rq : r ≡ root_in x e) where
      pub body-asks : Asks tb rank f s y (levels - 1) d r
      body-asks = record {
        stands = body_stands a.world a.there (omega (arith, a.lower)) rq;
        holds = holds-next a.holds a.holds.good (held_same y a.holds.whole) (omega (arith, dq));
      }

      module _ {s1 : List ℕ} {y1 : Counts} {b : Reading} (g : Gives (visited tb s y d r) (levels - 1) d y s1 y1 b) where
        ref-said : (n : ℕ) → levels ≤ n → referenced tb s y m e n ≡ next (said_of b s1 y1) (cut_body (some y.limit) e m)
        unfolding referenced visited
        ref-said zero u = absurd (omega (arith, some-levels))
        ref-said (suc n) u =
            let z = body_is a.world a.there rq in
            let w : body (some y.limit) (forest (tabled tb)) y.degree (F tb) (suc n) e (members s) (tally_of y) ≡ said_of b s1 y1 =
            ap (λ o. body_in (some y.limit) (forest (tabled tb)) y.degree (F tb) (body (some y.limit) (forest (tabled tb)) y.degree (F tb) n) o (members s) (tally_of y)) z.1
            ∙ ap₂ (λ tr d. visit (some y.limit) (R tb y.limit y.degree n tr) (some (members s)) d (tally_of y)) z.2 (sym dq)
            ∙ sym (g.same n (omega (arith, u))) in
            rw (le-ltb m 1 h, q) (ap (λ o. next o (cut_body (some y.limit) e m)) w)

        pub ref-none : is_degree b ≡ false → Got b s1 y1
        ref-none z = record { same = λ n u. sym (ref-said n u ∙ stuck b s1 y1 (cut_body (some y.limit) e m) z (λ k. refl)); good = g.good; held = g.held; low = no-low b m z }

        module _ {n0 : ℕ} (bq : b ≡ Ok (Some n0)) where
          degree-said : (n : ℕ) → levels ≤ n → referenced tb s y m e n ≡ cond (ltb m n0) (done (found (insert e (members s1)) 1) (record { cut = max (tally_of y1).cut n0; visits = (tally_of y1).visits })) (done (found (members s1) n0) (tally_of y1))
          degree-said n u = ref-said n u ∙ ap (λ b. next (said_of b s1 y1) (cut_body (some y.limit) e m)) bq

          pub ref-kept : n0 ≤ m → Got (Ok (Some n0)) s1 y1
          ref-kept w = record { same = λ n u. sym (degree-said n u ∙ rw (le-ltb m n0 w)); good = g.good; held = g.held; low = w }

          pub ref-cut : m < n0 → {s2 : List ℕ} {y2 : Counts} → Put s1 e s2 → Cuts y1 n0 y2 → Got (Ok (Some 1)) s2 y2
          ref-cut w p k = record {
            same = λ n u. ap₂ (λ set tally. done (found set 1) tally) p.is k.is ∙ sym (degree-said n u ∙ rw (lt-ltb m n0 w));
            good = p.good;
            held = held_then g.held k.held;
            low = h;
          }

-- ── a product, up to its splits ──────────────────────────────────────────────
module _ {v l x : List ℕ} {c c' : ℕ} {rank : ℕ → ℕ} {f s : List ℕ} {y : Counts} {levels m i : ℕ} (a : AsksProduct (Tabling v l x c c') rank f s y levels m i) where
  abbrev ta : Tables
  ta = Tabling v l x c c'

  abbrev Made : Reading → List ℕ → Counts → Type 0
  Made r s' y' = Gives (read_at ta s y m i) levels m y s' y' r

  abbrev form : Shaped (tabled ta)
  form = a.asks.stands.world.starts.shaped

  pub product-room : i < node_limit
  product-room = room a.asks.stands

  module _ {j0 : ℕ} (q0 : j0 ≡ c0_in v i) {j1 : ℕ} (q1 : j1 ≡ c1_in v i) where
    pub factor_left : Part a.asks.stands j0
    factor_left = left a.asks.stands (omega (arith, a.is)) (omega (arith, a.is)) q0

    pub factor_right : Part a.asks.stands j1
    factor_right = right a.asks.stands (omega (arith, a.is)) (omega (arith, a.is)) q1

    pub asks-left : Asks ta rank f s y levels m j0
    asks-left = record { stands = factor_left.stands; holds = a.asks.holds }

    pub asks-right : Asks ta rank f s y levels m j1
    asks-right = record { stands = factor_right.stands; holds = a.asks.holds }

    made-rule :
        (n : ℕ) → read_at ta s y m i n
        ≡ cond (free (tree (tabled ta) j0)) (visit (some y.limit) (T ta s y n j1) (some (members s)) m (tally_of y))
        (cond (free (tree (tabled ta) j1)) (visit (some y.limit) (T ta s y n j0) (some (members s)) m (tally_of y))
        (product (some y.limit) (F ta) (B ta y.limit y.degree n) (full_at ta i) (T ta s y n j0) (T ta s y n j1) (members s) m (tally_of y)))
    unfolding read_at
    made-rule n =
        rw (q0, q1, mul_is ta form a.asks.stands.there a.is)

    free-left : {k : ℕ} → k ≡ kind_in v j0 → {b : Bool} → b ≡ within kind.number kind.challenge k → free (tree (tabled ta) j0) ≡ b
    free-left ke e = free-is ta form factor_left.stands.there ∙ ap (within kind.number kind.challenge) (sym ke) ∙ sym e

    free-right : {k : ℕ} → k ≡ kind_in v j1 → {b : Bool} → b ≡ within kind.number kind.challenge k → free (tree (tabled ta) j1) ≡ b
    free-right ke e = free-is ta form factor_right.stands.there ∙ ap (within kind.number kind.challenge) (sym ke) ∙ sym e

    module _ {k0 : ℕ} (ke0 : k0 ≡ kind_in v j0) {b0 : Bool} (e0 : b0 ≡ within kind.number kind.challenge k0) where
      pub made-right : b0 ≡ true → {s2 : List ℕ} {y2 : Counts} {r : Reading} → Gives (visited ta s y m j1) levels m y s2 y2 r → Made r s2 y2
      unfolding visited
      made-right z g = record { same = λ n u. g.same n u ∙ sym (made-rule n ∙ rw (free-left ke0 e0 ∙ z)); good = g.good; held = g.held; low = g.low }

      module _ (z0 : b0 ≡ false) {k1 : ℕ} (ke1 : k1 ≡ kind_in v j1) {b1 : Bool} (e1 : b1 ≡ within kind.number kind.challenge k1) where
        pub made-left : b1 ≡ true → {s2 : List ℕ} {y2 : Counts} {r : Reading} → Gives (visited ta s y m j0) levels m y s2 y2 r → Made r s2 y2
        unfolding visited
        made-left z g = record { same = λ n u. g.same n u ∙ sym (made-rule n ∙ rw (free-left ke0 e0 ∙ z0, free-right ke1 e1 ∙ z)); good = g.good; held = g.held; low = g.low }

        module _ (z1 : b1 ≡ false) {w : ℕ} (we : w ≡ get_or f i 0) where
          two-rule : (n : ℕ) → read_at ta s y m i n ≡ product (some y.limit) (F ta) (B ta y.limit y.degree n) (full_at ta i) (T ta s y n j0) (T ta s y n j1) (members s) m (tally_of y)
          two-rule n = made-rule n ∙ rw (free-left ke0 e0 ∙ z0, free-right ke1 e1 ∙ z1)

          is-coded : w ≡ coded (full_at ta i)
          is-coded = we ∙ a.asks.holds.fulls.right i a.asks.stands.there

          pub made_none : w ≡ no_degree → Made (Err BadKind) s y
          made_none h = record {
            same = λ n u. sym (two-rule n ∙ rw (coded_none (full_at ta i) (sym is-coded ∙ h)));
            good = a.asks.holds.good;
            held = held_same y a.asks.holds.whole;
            low = omega arith;
          }

          pub made-low : {d : ℕ} → d ≡ w → d ≤ m → Made (Ok (Some d)) s y
          made-low {d} dq h = record {
            same = λ n u.
                let o : full_at ta i ≡ some d = coded-low (full_at ta i) (omega (arith, is-coded, dq, h, a.asks.holds.low, a.asks.holds.within)) ∙ ap some (sym is-coded ∙ sym dq) in
                sym (two-rule n ∙ rw (o, le-leb d m h));
            good = a.asks.holds.good;
            held = held_same y a.asks.holds.whole;
            low = h;
          }

          pub made_code : {d : ℕ} → d ≡ w → d ≤ m → Made (reading_of d) s y
          made_code {d} dq h = to-code d (reading-low d (omega (arith, h, a.asks.holds.low, a.asks.holds.within))) (made-low dq h)

          pub made-splits : (w ≡ no_degree → ⊥) → {d : ℕ} → d ≡ w → m < d → {s2 : List ℕ} {y2 : Counts} {r : Reading} → Gives (split ta s y m i) levels m y s2 y2 r → Made r s2 y2
          unfolding split
          made-splits u {d} dq h g = record {
            same = λ n z.
                g.same n z
                ∙ ap₂ (λ i j. splits (some y.limit) (T ta s y n i) (T ta s y n j) (members s) m (m + 1) 0 none (tally_of y)) (sym q0) (sym q1)
                ∙ sym (two-rule n ∙ coded-high (some y.limit) (F ta) (B ta y.limit y.degree n) (full_at ta i) (T ta s y n j0) (T ta s y n j1) (members s) m (tally_of y)
                (omega (arith, a.asks.holds.low, a.asks.holds.within)) (λ (b : coded (full_at ta i) ≡ no_degree). u (is-coded ∙ b)) (omega (arith, is-coded, dq, h)));
            good = g.good;
            held = g.held;
            low = g.low;
          }

-- ── a column ─────────────────────────────────────────────────────────────────
pub column-none : (m : ℕ) → m < 1 → reading_of 18 ≡ column_in m
column-none m h = rw (lt-ltb m 1 h)

pub column-one : (m : ℕ) → 1 ≤ m → reading_of 1 ≡ column_in m
column-one m h = rw (le-ltb m 1 h)
