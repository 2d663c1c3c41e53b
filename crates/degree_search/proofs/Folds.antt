-- The candidate of one degree limit: two visits for each identity but the first, the identities in order, and the largest degree of all.
-- Assumes nothing.
use Prim.Native.Nat.{ℕ, zero, suc, ◌+◌, ◌-◌, ◌<◌, ◌≤◌, max}
use mathlib.Core.Path.{◌≡◌, refl, sym, ◌∙◌, ap, ap₂, subst}
use mathlib.Core.Bool.{Bool, true, false, cond}
use mathlib.Core.Option.{Option, some}
use mathlib.Core.List.{List, [], ◌∷◌}
use native.Mathlib.Omega.{arith}
use native.Mathlib.Nat.{not-suc-le-zero, le_of_suc-le-suc}
use lib.ListN.{length, get_or, drop}
use Rattle.meaning.specs.Refusals.{Refusal}
use Rattle.meaning.specs.Trees.{Forest}
use Rattle.search_meaning.specs.Search.{Tally, Out, done, refused, Search, next, counted, Found, found, set_of, both, visit, rule, reference, top, candidate, fold_more, identity_leaf, folds}
use Rattle.search_meaning.specs.Fold.{next-next, tick, ticks, identity, identities, fold_is}
use Rattle.pool.specs.Trees.{forest}
use Rattle.pool.specs.Tabled.{Tables, tabled}
use Rattle.full_degrees.specs.Table.{F}
use Rattle.full_degrees.specs.Parts.{few_ranks}
use Rattle.sets.specs.Members.{members, Good}
use Rattle.std.specs.Prelude as code
use Rattle.std.specs.Prelude.{Some, None, Ok, Err}
use Rattle.degree_rule.specs.declared.reading.Stop.{Stop}
use Rattle.degree_rule.specs.declared.reading.Stop.TheVariants.{OverLimit}
use Rattle.degree_rule.specs.Tallies.{Counts, tally_of, Whole, Held, Entered}
use Rattle.degree_rule.specs.Readings.{Reading, found_in, said_of, is_degree, Passed}
use Rattle.degree_rule.specs.Visiting.{B, referenced, Gives, AsksReference}
use Rattle.degree_rule.specs.Laws.{held_same, held_then, stuck, pair-said}
use Rattle.degree_search.specs.Candidates.{top_in, Ticked, one, several, Reads, AsksOne, AsksAll}

-- ── visits that do nothing by themselves ─────────────────────────────────────
entered-cut : {y : Counts} {b : Bool} {y1 : Counts} → Entered y b y1 → y1.cut ≡ y.cut
unfolding tally_of
entered-cut {y} {b} {y1} e = go b e.is
  where
    go : (b : Bool) → tally_of y1 ≡ cond b (counted (tally_of y)) (tally_of y) → y1.cut ≡ y.cut
    go true h = ap (λ (k : Tally). k.cut) h
    go false h = ap (λ (k : Tally). k.cut) h

module _ {y : Counts} {b : Bool} {y1 : Counts} (e : Entered y b y1) (f : Search Found) where
  tick-by : (c : Bool) → b ≡ c → tick (some y.limit) f (tally_of y) ≡ cond c (f (counted (tally_of y))) (refused Refusal.visits (tally_of y).visits)
  unfolding tally_of
  tick-by c z = rw (sym e.may ∙ z)

  tick-true : b ≡ true → tick (some y.limit) f (tally_of y) ≡ f (tally_of y1)
  tick-true z = tick-by true z ∙ ap f (sym (e.is ∙ ap (λ c. cond c (counted (tally_of y)) (tally_of y)) z))

  tick-false : b ≡ false → tick (some y.limit) f (tally_of y) ≡ refused Refusal.visits (tally_of y1).visits
  tick-false z = tick-by false z ∙ ap (λ (k : Tally). refused Refusal.visits k.visits) (sym (e.is ∙ ap (λ c. cond c (counted (tally_of y)) (tally_of y)) z))

-- k of n times are done
pub record Ticking (y : Counts) (n : ℕ) (y1 : Counts) (k : ℕ) : Type 0 where
  pub same : (f : Search Found) → ticks (some y.limit) n f (tally_of y) ≡ ticks (some y.limit) (n - k) f (tally_of y1)
  pub cut : y1.cut ≡ y.cut
  pub held : Held y y1

pub ticking_first : (y : Counts) (n : ℕ) → Whole y → Ticking y n y 0
ticking_first y n w = record { same = λ f. let z : n ≡ n - 0 = omega arith in ap (λ n. ticks (some y.limit) n f (tally_of y)) z; cut = refl; held = held_same y w }

module _ {y : Counts} {n : ℕ} {y1 : Counts} {k : ℕ} (g : Ticking y n y1 k) where
  pub ticked_all : n ≤ k → Ticked y n true y1
  ticked_all h = record {
    same = λ f. let z : n - k ≡ 0 = omega arith in g.same f ∙ ap (λ n. ticks (some y.limit) n f (tally_of y1)) z;
    cut = g.cut;
    held = g.held;
  }

  module _ (h : k < n) {b1 : Bool} {y2 : Counts} (e1 : Entered y1 b1 y2) where
    -- what is left of this turn, and of all
    abbrev Left : Search Found → Search Found
    Left f = ticks (some y.limit) (n - (k + 1)) f

    abbrev Half : Search Found → Search Found
    Half f = tick (some y.limit) (Left f)

    two : (f : Search Found) → ticks (some y.limit) n f (tally_of y) ≡ tick (some y1.limit) (tick (some y.limit) (ticks (some y.limit) (n - (k + 1)) f)) (tally_of y1)
    two f =
        let z : n - k ≡ suc (n - (k + 1)) = omega arith in
        g.same f ∙ ap (λ n. ticks (some y.limit) n f (tally_of y1)) z
        ∙ ap (λ L. tick (some L) (tick (some y.limit) (ticks (some y.limit) (n - (k + 1)) f)) (tally_of y1)) (sym g.held.limit)

    pub first-over : b1 ≡ false → Ticked y n false y2
    first-over q = record { same = λ f. two f ∙ tick-false e1 (Half f) q; cut = entered-cut e1 ∙ g.cut; held = held_then g.held e1.held }

    module _ (q1 : b1 ≡ true) {b2 : Bool} {y3 : Counts} (e2 : Entered y2 b2 y3) where
      after : (f : Search Found) → ticks (some y.limit) n f (tally_of y) ≡ tick (some y2.limit) (ticks (some y.limit) (n - (k + 1)) f) (tally_of y2)
      after f =
          two f ∙ tick-true e1 (Half f) q1
          ∙ ap (λ L. tick (some L) (ticks (some y.limit) (n - (k + 1)) f) (tally_of y2)) (sym (e1.held.limit ∙ g.held.limit))

      pub second-over : b2 ≡ false → Ticked y n false y3
      second-over q = record { same = λ f. after f ∙ tick-false e2 (Left f) q; cut = entered-cut e2 ∙ entered-cut e1 ∙ g.cut; held = held_then (held_then g.held e1.held) e2.held }

      pub ticking_on : b2 ≡ true → Ticking y n y3 (k + 1)
      ticking_on q = record { same = λ f. after f ∙ tick-true e2 (Left f) q; cut = entered-cut e2 ∙ entered-cut e1 ∙ g.cut; held = held_then (held_then g.held e1.held) e2.held }

-- ── one identity ─────────────────────────────────────────────────────────────
module _ {t : Tables} {rank : ℕ → ℕ} {f s : List ℕ} {y : Counts} {e : ℕ} (a : AsksOne t rank f s y e) (p : code.Option ℕ) where
  abbrev q : Reading
  q = Ok p

  abbrev Ref : Counts → List ℕ → ℕ → Search Found
  Ref y = reference (some y.limit) (F t) (B t y.limit y.degree t.expression_count) e

  abbrev W : Found → Search Found
  W x = visit (some y.limit) (Ref y) (set_of x) y.degree

  one-said : next (said_of q s y) (one t y e) ≡ next (next (said_of q s y) W) (λ z k. done (both max (found_in q s) z) k)
  one-said = pair-said max q s y W

  pub one-passed : p ≡ None → {r : Reading} {y2 : Counts} → Passed (Ok None) y r y2 → Reads (next (said_of (Ok p) s y) (one t y e)) y s y2 r
  one-passed h {r} {y2} g' = let g : Passed q y r y2 = rw h g' in let h : is_degree q ≡ false = rw h in record {
    same =
        sym (one-said ∙ ap (λ o. next o (λ z k. done (both max (found_in q s) z) k)) (sym (g.same h (Ref y) y.degree s))
        ∙ stuck r s y2 (λ z k. done (both max (found_in q s) z) k) (g.none h) (λ k. refl));
    good = a.holds.good;
    held = g.held;
  }

  module _ {n0 : ℕ} (p0 : p ≡ Some n0) {b : Bool} {y1 : Counts} (en : Entered y b y1) where
    q0 : q ≡ Ok (Some n0)
    q0 = ap Ok p0

    visit-by : (c : Bool) → b ≡ c → next (said_of q s y) W ≡ cond c (Ref y (members s) y.degree (counted (tally_of y))) (refused Refusal.visits (tally_of y).visits)
    unfolding tally_of
    visit-by c z = ap (λ q. next (said_of q s y) W) q0 ∙ rw (sym en.may ∙ z)

    pub one-over : b ≡ false → Reads (next (said_of (Ok p) s y) (one t y e)) y s y1 (Err OverLimit)
    one-over z = record {
      same =
          ap (λ (k : Tally). refused Refusal.visits k.visits) (en.is ∙ ap (λ c. cond c (counted (tally_of y)) (tally_of y)) z)
          ∙ sym (one-said ∙ ap (λ o. next o (λ z k. done (both max (found_in q s) z) k)) (visit-by false z));
      good = a.holds.good;
      held = en.held;
    }

    module _ (z : b ≡ true) {d : ℕ} (dq : d ≡ y1.degree) where
      pub one-asks : AsksReference t rank f s y1 t.expression_count d e
      one-asks = record {
        world = a.world;
        there = a.there;
        lower = few_ranks a.world a.there;
        holds = record { fulls = a.holds.fulls; good = a.holds.good; whole = en.held.whole; low = omega (arith, en.held.degree, a.holds.low); within = omega (arith, dq) };
      }

      module _ {s2 : List ℕ} {y2 : Counts} {r : Reading} (g : Gives (referenced t s y1 d e) t.expression_count d y1 s2 y2 r) where
        ref-is : next (said_of q s y) W ≡ said_of r s2 y2
        unfolding referenced
        ref-is =
            visit-by true z
            ∙ ap (λ k. Ref y (members s) y.degree k) (sym (en.is ∙ ap (λ c. cond c (counted (tally_of y)) (tally_of y)) z))
            ∙ sym (g.same t.expression_count (omega arith)
            ∙ ap (λ d. Ref y1 (members s) d (tally_of y1)) (dq ∙ en.held.degree)
            ∙ ap₂ (λ L d. reference (some L) (F t) (B t L d t.expression_count) e (members s) y.degree (tally_of y1)) en.held.limit en.held.degree)

        pub one_none : is_degree r ≡ false → Reads (next (said_of (Ok p) s y) (one t y e)) y s2 y2 r
        one_none h = record {
          same = sym (one-said ∙ ap (λ o. next o (λ z k. done (both max (found_in q s) z) k)) ref-is ∙ stuck r s2 y2 (λ z k. done (both max (found_in q s) z) k) h (λ k. refl));
          good = g.good;
          held = held_then en.held g.held;
        }

        pub one_more : {n1 : ℕ} → r ≡ Ok (Some n1) → {n : ℕ} → n ≡ max n0 n1 → Reads (next (said_of (Ok p) s y) (one t y e)) y s2 y2 (Ok (Some n))
        one_more {n1} rq {n} h = record {
          same =
              sym (one-said ∙ ap (λ o. next o (λ z k. done (both max (found_in q s) z) k)) ref-is
              ∙ ap₂ (λ r q. next (said_of r s2 y2) (λ z k. done (both max (found_in q s) z) k)) rq q0
              ∙ ap (λ n. done (found (members s2) n) (tally_of y2)) (sym h));
          good = g.good;
          held = held_then en.held g.held;
        }

-- ── the identities in order ──────────────────────────────────────────────────
drop-suc : (l : List ℕ) (k : ℕ) → k < length l → drop k l ≡ get_or l k 0 ∷ drop (suc k) l
drop-suc [] k h = absurd (not-suc-le-zero h)
drop-suc (x ∷ l) zero h = refl
drop-suc (x ∷ l) (suc k) h = drop-suc l k (le_of_suc-le-suc h)

drop_at : (l : List ℕ) (k : ℕ) → k < length l → drop k l ≡ get_or l k 0 ∷ drop (k + 1) l
drop_at l k h = let z : suc k ≡ k + 1 = omega arith in drop-suc l k h ∙ ap (λ n. get_or l k 0 ∷ drop n l) z

drop-end : (l : List ℕ) (k : ℕ) → length l ≤ k → drop k l ≡ []
drop-end [] zero h = refl
drop-end [] (suc k) h = refl
drop-end (x ∷ l) zero h = absurd (not-suc-le-zero h)
drop-end (x ∷ l) (suc k) h = drop-end l k (le_of_suc-le-suc h)

module _ {t : Tables} {rank : ℕ → ℕ} {f es s : List ℕ} {y : Counts} (a : AsksAll t rank f es s y) where
  -- what is left to read, after the first k, is all that there is
  pub record Reading-on (r : code.Option ℕ) (s1 : List ℕ) (y1 : Counts) (k : ℕ) : Type 0 where
    pub same : several t y es (found [] 0) (tally_of y) ≡ next (said_of (Ok r) s1 y1) (several t y (drop k es))
    pub good : Good s1
    pub held : Held y y1

  pub reading-first : Reading-on (Some 0) s y 0
  reading-first = record { same = ap (λ m. several t y es (found m 0) (tally_of y)) (sym a.none); good = a.holds.good; held = held_same y a.holds.whole }

  module _ {o : code.Option ℕ} {s1 : List ℕ} {y1 : Counts} {k : ℕ} (g : Reading-on o s1 y1 k) where
    next-end : (o : Out Found) → next o (several t y []) ≡ o
    next-end (done x k) = refl
    next-end (refused x v) = refl

    pub read_all : length es ≤ k → Reads (several t y es (found [] 0) (tally_of y)) y s1 y1 (Ok o)
    read_all h = record {
      same = sym (g.same ∙ ap (λ l. next (said_of (Ok o) s1 y1) (several t y l)) (drop-end es k h) ∙ next-end (said_of (Ok o) s1 y1));
      good = g.good;
      held = g.held;
    }

    module _ (h : k < length es) {e : ℕ} (q : e ≡ get_or es k 0) where
      pub next-asks : AsksOne t rank f s1 y1 e
      next-asks = record {
        world = a.world;
        holds = record { fulls = a.holds.fulls; good = g.good; whole = g.held.whole; low = omega (arith, g.held.degree, a.holds.low); within = omega arith };
        there = subst (λ e. e < t.expression_count) (sym q) (a.each k h);
      }

      module _ {r2 : Reading} {s2 : List ℕ} {y2 : Counts} (p : Reads (next (said_of (Ok o) s1 y1) (one t y1 e)) y1 s2 y2 r2) where
        read-said : several t y es (found [] 0) (tally_of y) ≡ next (said_of r2 s2 y2) (several t y (drop (k + 1) es))
        read-said =
            g.same ∙ ap (λ l. next (said_of (Ok o) s1 y1) (several t y l)) (drop_at es k h ∙ ap (λ e. e ∷ drop (k + 1) es) (sym q))
            ∙ sym (next-next (said_of (Ok o) s1 y1) (one t y e) (several t y (drop (k + 1) es)))
            ∙ ap (λ o. next o (several t y (drop (k + 1) es)))
            (ap₂ (λ L d. next (said_of (Ok o) s1 y1) (identity (some L) (F t) (B t L d t.expression_count) d e)) (sym g.held.limit) (sym g.held.degree) ∙ sym p.same)

        pub reading-on : {o2 : code.Option ℕ} → r2 ≡ Ok o2 → Reading-on o2 s2 y2 (k + 1)
        reading-on z = record { same = read-said ∙ ap (λ r. next (said_of r s2 y2) (several t y (drop (k + 1) es))) z; good = p.good; held = held_then g.held p.held }

        -- a refusal is that of all
        pub read-refused : {e2 : Stop} → r2 ≡ Err e2 → Reads (several t y es (found [] 0) (tally_of y)) y s2 y2 (Err e2)
        read-refused z = record {
          same = sym (read-said ∙ ap (λ r. next (said_of r s2 y2) (several t y (drop (k + 1) es))) z);
          good = p.good;
          held = held_then g.held p.held;
        }

-- ── the candidate ────────────────────────────────────────────────────────────
topped :
    (lim : Option ℕ) (E : Forest) (d : ℕ) (F : ℕ → Option ℕ) (o : code.Option ℕ) (s : List ℕ) (y : Counts) →
    next (said_of (Ok o) s y) (λ x k. done (top lim E d F x k.cut) k) ≡ said_of (Ok (top_in o y.cut)) s y
unfolding tally_of
topped lim E d F (Some n) s y = refl
topped lim E d F None s y = refl

-- the identities, after the visits of the fold
pub tick-asks : {t : Tables} {rank : ℕ → ℕ} {f es s : List ℕ} {y : Counts} → AsksAll t rank f es s y → {n : ℕ} {b : Bool} {y1 : Counts} → Ticked y n b y1 → AsksAll t rank f es s y1
tick-asks a g = record {
  world = a.world;
  holds = record { fulls = a.holds.fulls; good = a.holds.good; whole = g.held.whole; low = omega (arith, g.held.degree, a.holds.low); within = omega arith };
  none = a.none;
  some = a.some;
  each = a.each;
}

module _ {t : Tables} {rank : ℕ → ℕ} {f es s : List ℕ} {y : Counts} (a : AsksAll t rank f es s y) (cut : y.cut ≡ 0) (vc : ℕ) where
  abbrev Cand : Out Found
  Cand = candidate (some y.limit) (forest (tabled t)) y.degree (F t) t.expression_count (folds vc es) y.visits

  abbrev End : Found → Search Found
  End x k = done (top (some y.limit) (forest (tabled t)) y.degree (F t) x k.cut) k

  fold-said : Cand ≡ next (ticks (some y.limit) (length es - 1) (several t y es (found [] 0)) (tally_of y)) End
  unfolding tally_of
  fold-said = go es a.some
    where
      go : (es : List ℕ) → 1 ≤ length es
          → candidate (some y.limit) (forest (tabled t)) y.degree (F t) t.expression_count (folds vc es) y.visits
          ≡ next (ticks (some y.limit) (length es - 1) (several t y es (found [] 0)) (tally_of y)) End
      go [] h = absurd (omega arith)
      go (e ∷ es) h =
          let n : length es ≡ length (e ∷ es) - 1 = omega arith in
          ap (λ c. next (visit (some y.limit) (rule (some y.limit) (F t) (B t y.limit y.degree t.expression_count) (fold_more vc (identity_leaf e) es)) (some []) y.degree (record { cut = c; visits = y.visits })) End) (sym cut)
          ∙ ap (λ o. next o End) (fold_is (some y.limit) (F t) (B t y.limit y.degree t.expression_count) y.degree vc e es (tally_of y))
          ∙ ap (λ n. next (ticks (some y.limit) n (several t y (e ∷ es) (found [] 0)) (tally_of y)) End) n

  module _ {n : ℕ} (nq : n ≡ length es - 1) {b : Bool} {y1 : Counts} (g : Ticked y n b y1) where
    ticked_said : (c : Bool) → b ≡ c → Cand ≡ next (cond c (several t y es (found [] 0) (tally_of y1)) (refused Refusal.visits (tally_of y1).visits)) End
    ticked_said c z =
        fold-said ∙ ap (λ n. next (ticks (some y.limit) n (several t y es (found [] 0)) (tally_of y)) End) (sym nq)
        ∙ ap (λ o. next o End) (g.same (several t y es (found [] 0)) ∙ ap (λ c. cond c (several t y es (found [] 0) (tally_of y1)) (refused Refusal.visits (tally_of y1).visits)) z)

    pub candidate-over : b ≡ false → Reads Cand y s y1 (Err OverLimit)
    candidate-over z = record { same = sym (ticked_said false z); good = a.holds.good; held = g.held }

    module _ (z : b ≡ true) where
      module _ {r : Reading} {s2 : List ℕ} {y2 : Counts} (p : Reads (several t y1 es (found [] 0) (tally_of y1)) y1 s2 y2 r) where
        read-next : Cand ≡ next (said_of r s2 y2) End
        read-next =
            ticked_said true z
            ∙ ap (λ o. next o End)
            (ap₂ (λ L d. identities (some L) (F t) (B t L d t.expression_count) d es (found [] 0) (tally_of y1)) (sym g.held.limit) (sym g.held.degree) ∙ sym p.same)

        pub candidate-refused : {e : Stop} → r ≡ Err e → Reads Cand y s2 y2 (Err e)
        candidate-refused h = record { same = sym (read-next ∙ ap (λ r. next (said_of r s2 y2) End) h); good = p.good; held = held_then g.held p.held }

        pub candidate-gives : {o : code.Option ℕ} → r ≡ Ok o → {q : code.Option ℕ} → q ≡ top_in o y2.cut → Reads Cand y s2 y2 (Ok q)
        candidate-gives {o} h u = record {
          same =
              ap (λ q. said_of (Ok q) s2 y2) u
              ∙ sym (read-next ∙ ap (λ r. next (said_of r s2 y2) End) h ∙ topped (some y.limit) (forest (tabled t)) y.degree (F t) o s2 y2);
          good = p.good;
          held = held_then g.held p.held;
        }
