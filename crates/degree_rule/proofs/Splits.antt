-- The ways to share a limit between the factors of a product: at the loop's head what is left to try, from the best so far, is all that there is.
-- Assumes nothing.
use Prim.Native.Nat.{ℕ, suc, ◌+◌, ◌-◌, ◌<◌, ◌≤◌}
use mathlib.Core.Path.{◌≡◌, refl, sym, ◌∙◌, ap, ap₂, subst}
use mathlib.Core.Bool.{true, false, cond}
use mathlib.Core.Option.{none, some}
use mathlib.Core.List.{List}
use mathlib.Core.Logic.{◌⊎◌, inl, inr}
use native.Mathlib.Omega.{arith}
use Rattle.search_meaning.specs.Search.{Tally, Out, done, Search, next, Found, pair, splits, better, settled}
use Rattle.frames.specs.Tables.{kind_in}
use Rattle.pool.specs.Words.{c0_in, c1_in}
use Rattle.pool.specs.Tabled.{Tables}
use Rattle.pool.specs.Ranking.{Tabling}
use Rattle.sets.specs.Members.{members, Good}
use Rattle.std.specs.Prelude.{Option, None, Ok, Err}
use Rattle.degree_rule.specs.declared.reading.Stop.{Stop}
use Rattle.degree_rule.specs.Tallies.{Counts, tally_of, Held}
use Rattle.degree_rule.specs.Readings.{Reading, found_in, said_of, degree_in, refused_in, settled_in, Betters}
use Rattle.degree_rule.specs.Visiting.{degree_op, T, split, paired, Gives, AsksProduct, AsksPair}
use Rattle.degree_rule.specs.Laws.{held_same, held_then, calm-said}
use Rattle.degree_rule.proofs.Visits.{holds-next, rule-held}

-- ── one of two readings ──────────────────────────────────────────────────────
one_of : (P : Reading → Type 0) {r a b : Reading} → (r ≡ a) ⊎ (r ≡ b) → P a → P b → P r
one_of P (inl q) x y = subst P (sym q) x
one_of P (inr q) x y = subst P (sym q) y

-- ── the loop ─────────────────────────────────────────────────────────────────
module _ {v l x : List ℕ} {c c' : ℕ} {rank : ℕ → ℕ} {f s : List ℕ} {y : Counts} {levels m i : ℕ} (a : AsksProduct (Tabling v l x c c') rank f s y levels m i) where
  abbrev t : Tables
  t = Tabling v l x c c'

  -- n ways from u on, from the best so far
  abbrev Rest : ℕ → ℕ → ℕ → Found → Tally → Out Found
  Rest n w u best k = splits (some y.limit) (T t s y n (c0_in v i)) (T t s y n (c1_in v i)) (members s) m w u best k

  pub record Going (best : List ℕ) (kept : Reading) (y1 : Counts) (u : ℕ) : Type 0 where
    pub good : Good best
    pub held : Held y y1
    pub calm : refused_in kept ≡ false
    pub low : degree_in kept ≤ m
    pub inside : u ≤ m + 1
    pub same : (n : ℕ) → levels ≤ n → split t s y m i n ≡ Rest n (m + 1 - u) u (found_in kept best) (tally_of y1)

  pub going_first : Going s (Ok None) y 0
  unfolding split
  going_first = record {
    good = a.asks.holds.good;
    held = held_same y a.asks.holds.whole;
    calm = refl;
    low = omega arith;
    inside = omega arith;
    same = λ n h. let z : m + 1 ≡ m + 1 - 0 = omega arith in ap (λ w. Rest n w 0 none (tally_of y)) z;
  }

  mul-op : degree_op (kind_in v i) ≡ ◌+◌
  mul-op = ap degree_op a.is

  module _ {best : List ℕ} {kept : Reading} {y1 : Counts} {u : ℕ} (g : Going best kept y1 u) where
    pub end-gives : m < u → Gives (split t s y m i) levels m y best y1 kept
    end-gives h = record {
      same = λ n z.
          let w : m + 1 - u ≡ 0 = omega arith in
          calm-said kept best y1 g.calm ∙ sym (g.same n z ∙ ap (λ w. Rest n w u (found_in kept best) (tally_of y1)) w);
      good = g.good;
      held = g.held;
      low = g.low;
    }

    pub end-as : {best1 : List ℕ} {kept1 : Reading} {y2 : Counts} → best1 ≡ best → kept1 ≡ kept → y2 ≡ y1 → m < u → Gives (split t s y m i) levels m y best1 y2 kept1
    end-as p q r h = rw (p, q, r) (end-gives h)

    module _ (h : u ≤ m) where
      pub turn-asks : AsksPair t rank f s y1 levels u (m - u) i
      turn-asks =
          let w = a.asks.holds.within in record {
            stands = a.asks.stands;
            low = omega (arith, a.is);
            high = omega (arith, a.is);
            left = holds-next a.asks.holds a.asks.holds.good g.held (omega (arith, w));
            right = omega (arith, g.held.degree, w);
            within = subst (λ (δ : ℕ → ℕ → ℕ). δ u (m - u) ≤ y1.degree) (sym mul-op) (omega (arith, g.held.degree, w));
          }

      module _ {s2 : List ℕ} {y2 : Counts} {here : Reading} (p : Gives (paired t s y1 u (m - u) i) levels (degree_op (kind_in v i) u (m - u)) y1 s2 y2 here) where
        abbrev After : ℕ → Found → Search Found
        After n z k =
            cond (settled (better (found_in kept best) z) (members s)) (done (better (found_in kept best) z) k)
            (Rest n (m - u) (u + 1) (better (found_in kept best) z) k)

        pair_is : (n : ℕ) → levels ≤ n → pair (some y.limit) ◌+◌ (T t s y n (c0_in v i)) (T t s y n (c1_in v i)) (members s) u (m - u) (tally_of y1) ≡ said_of here s2 y2
        unfolding paired
        pair_is n z =
            sym (p.same n z
            ∙ ap (λ δ. pair (some y1.limit) δ (T t s y1 n (c0_in v i)) (T t s y1 n (c1_in v i)) (members s) u (m - u) (tally_of y1)) mul-op
            ∙ ap (λ b. pair (some b) ◌+◌ (T t s y1 n (c0_in v i)) (T t s y1 n (c1_in v i)) (members s) u (m - u) (tally_of y1)) g.held.limit
            ∙ ap₂ (λ d e. pair (some y.limit) ◌+◌ d e (members s) u (m - u) (tally_of y1)) (rule-held t s s g.held n (c0_in v i)) (rule-held t s s g.held n (c1_in v i)))

        turn-said : (n : ℕ) → levels ≤ n → split t s y m i n ≡ next (said_of here s2 y2) (After n)
        turn-said n z =
            let w : m + 1 - u ≡ suc (m - u) = omega arith in
            g.same n z ∙ ap (λ w. Rest n w u (found_in kept best) (tally_of y1)) w ∙ ap (λ o. next o (After n)) (pair_is n z)

        here-low : degree_in here ≤ m
        here-low = let w : degree_in here ≤ u + (m - u) = subst (λ (δ : ℕ → ℕ → ℕ). degree_in here ≤ δ u (m - u)) mul-op p.low in omega (arith, w)

        pub turn-refused : {e : Stop} → here ≡ Err e → Gives (split t s y m i) levels m y s2 y2 here
        turn-refused {e} q = record {
          same = λ n z. sym (turn-said n z ∙ ap (λ r. next (said_of r s2 y2) (After n)) q ∙ sym (ap (λ r. said_of r s2 y2) q));
          good = p.good;
          held = held_then g.held p.held;
          low = here-low;
        }

        module _ {o : Option ℕ} (q : here ≡ Ok o) {kept1 : Reading} {best1 : List ℕ} (b : Betters kept best (Ok o) s2 kept1 best1) where
          calm1 : refused_in kept1 ≡ false
          calm1 = one_of (λ r. refused_in r ≡ false) b.one g.calm refl

          low1 : degree_in kept1 ≤ m
          low1 = one_of (λ r. degree_in r ≤ m) b.one g.low (subst (λ r. degree_in r ≤ m) q here-low)

          after-said : (n : ℕ) → levels ≤ n → split t s y m i n ≡ cond (settled_in kept1 best1 s) (done (found_in kept1 best1) (tally_of y2)) (Rest n (m - u) (u + 1) (found_in kept1 best1) (tally_of y2))
          after-said n z =
              turn-said n z ∙ ap (λ r. next (said_of r s2 y2) (After n)) q
              ∙ ap (λ w. cond (settled w (members s)) (done w (tally_of y2)) (Rest n (m - u) (u + 1) w (tally_of y2))) (sym b.is)

          pub turn-settled : settled_in kept1 best1 s ≡ true → Gives (split t s y m i) levels m y best1 y2 kept1
          turn-settled e = record {
            same = λ n z.
                calm-said kept1 best1 y2 calm1
                ∙ sym (after-said n z ∙ ap (λ d. cond d (done (found_in kept1 best1) (tally_of y2)) (Rest n (m - u) (u + 1) (found_in kept1 best1) (tally_of y2))) e);
            good = b.good;
            held = held_then g.held p.held;
            low = low1;
          }

          pub going_on : settled_in kept1 best1 s ≡ false → Going best1 kept1 y2 (u + 1)
          going_on e = record {
            good = b.good;
            held = held_then g.held p.held;
            calm = calm1;
            low = low1;
            inside = omega arith;
            same = λ n z.
                let w : m - u ≡ m + 1 - (u + 1) = omega arith in
                after-said n z ∙ ap (λ d. cond d (done (found_in kept1 best1) (tally_of y2)) (Rest n (m - u) (u + 1) (found_in kept1 best1) (tally_of y2))) e
                ∙ ap (λ w. Rest n w (u + 1) (found_in kept1 best1) (tally_of y2)) w;
          }
