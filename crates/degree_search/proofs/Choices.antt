-- The choice among candidates: at the loop's head the limits that are left, from the one kept so far, give what all of them give.
-- Assumes nothing.
use Prim.Native.Nat.{ℕ, suc, ◌+◌, ◌-◌, ◌<◌, ◌≤◌}
use mathlib.Core.Path.{◌≡◌, refl, sym, ◌∙◌, ap, ap₂, subst}
use mathlib.Core.Option.{none, some}
use mathlib.Core.List.{List}
use native.Mathlib.Omega.{arith}
use lib.ListN.{length}
use Rattle.meaning.specs.Refusals.{Answer}
use Rattle.meaning.specs.Trees.{Forest}
use Rattle.search_meaning.specs.Search.{keep, candidate, finish, Choice, onward, folds, tries}
use Rattle.pool.specs.Trees.{forest}
use Rattle.pool.specs.Tabled.{Tables, tabled}
use Rattle.pool.specs.Laws.Tabled.{expression-count}
use Rattle.pool.specs.Laws.Forest.{forest-size}
use Rattle.full_degrees.specs.Table.{F}
use Rattle.sets.specs.Members.{Good}
use Rattle.sets.specs.Empty.{blank, blank_none, blank-good}
use Rattle.std.specs.Prelude.{Option, None, Result, Ok, Err}
use Rattle.kinds.specs.Answers.{blaming_none}
use Rattle.kinds.specs.declared.refusal.Refused.{Refused}
use Rattle.degree_rule.specs.declared.reading.Stop.{Stop}
use Rattle.degree_rule.specs.Tallies.{Counts, tally_of, Whole}
use Rattle.degree_rule.specs.Readings.{Reading, refusal_in, found_in, said_of}
use Rattle.degree_search.specs.Candidates.{Reads, AsksAll}
use Rattle.degree_search.specs.Choosing.{Keeps, Fresh, Ready, Asks, Tells}
use Rattle.degree_search.specs.declared.choose.Found.{Found}

module _ {t : Tables} {rank : ℕ → ℕ} {f es : List ℕ} {last : ℕ} (a : Asks t rank f es last) (limit : ℕ) where
  abbrev E : Forest
  E = forest (tabled t)

  size_is : length E ≡ t.expression_count
  size_is = forest-size (tabled t) ∙ expression-count t

  -- all of them, whatever the number of "vc"
  abbrev All : ℕ → Answer Choice
  All vc = tries (some limit) E (folds vc es) (last - 1) 2 none 0

  pub record Trying (best : List ℕ) (kept : Reading) (y : Counts) (d : ℕ) : Type 0 where
    pub good : Good best
    pub whole : Whole y
    pub limited : y.limit ≡ limit
    pub low : 2 ≤ d
    pub high : d ≤ last + 1
    pub same : (vc : ℕ) → All vc ≡ tries (some limit) E (folds vc es) (last + 1 - d) d (found_in kept best) y.visits

  pub trying_first : {y : Counts} → Fresh limit y → Trying blank (Ok None) y 2
  trying_first {y} g = record {
    good = blank-good;
    whole = g.whole;
    limited = g.limit;
    low = omega arith;
    high = omega (arith, a.low);
    same = λ vc. let z : last - 1 ≡ last + 1 - 2 = omega arith in ap₂ (λ n v. tries (some limit) E (folds vc es) n 2 none v) z (sym g.visits);
  }

  module _ {best : List ℕ} {kept : Reading} {y : Counts} {d : ℕ} (g : Trying best kept y d) where
    pub tried : last < d → {w w' : List ℕ} {r : Result Found Refused} → Tells (finish (found_in kept best) y.visits) w w' r → (vc : ℕ) → Tells (All vc) w w' r
    tried h {w} {w'} {r} p vc =
        let z : last + 1 - d ≡ 0 = omega arith in
        subst (λ x. Tells x w w' r) (sym (g.same vc ∙ ap (λ n. tries (some limit) E (folds vc es) n d (found_in kept best) y.visits) z)) p

    pub tried-as :
        {best1 : List ℕ} {kept1 : Reading} {y1 : Counts} → best1 ≡ best → kept1 ≡ kept → y1 ≡ y → last < d → {w w' : List ℕ} {r : Result Found Refused} →
        (Good best1 → Tells (finish (found_in kept1 best1) y1.visits) w w' r) → (vc : ℕ) → Tells (All vc) w w' r
    tried-as {best1} {kept1} {y1} p q s h {w} {w'} {r} f vc =
        let e : Good best → Tells (finish (found_in kept best) y.visits) w w' r = rw (← p, ← q, ← s) f in
        tried h (e g.good) vc

    module _ (h : d ≤ last) {y1 : Counts} (e : Ready y d y1) where
      pub all-asks : AsksAll t rank f es blank y1
      all-asks = record {
        world = a.world;
        holds = record { fulls = a.fulls; good = blank-good; whole = e.whole; low = omega (arith, e.degree, a.high); within = omega arith };
        none = blank_none;
        some = a.some;
        each = a.each;
      }

      module _ {s2 : List ℕ} {y2 : Counts} {here : Reading}
          (p : (vc : ℕ) → Reads (candidate (some y1.limit) E y1.degree (F t) t.expression_count (folds vc es) y1.visits) y1 s2 y2 here) where
        candidate-is : (vc : ℕ) → candidate (some limit) E d (F t) (length E) (folds vc es) y.visits ≡ said_of here s2 y2
        candidate-is vc =
            ap₂ (λ n v. candidate (some limit) E d (F t) n (folds vc es) v) size_is (sym e.visits)
            ∙ ap₂ (λ L d. candidate (some L) E d (F t) t.expression_count (folds vc es) y1.visits) (sym (e.limit ∙ g.limited)) (sym e.degree)
            ∙ sym (p vc).same

        try_said : (vc : ℕ) → All vc ≡ onward (said_of here s2 y2) (λ x. tries (some limit) E (folds vc es) (last - d) (d + 1) (keep (found_in kept best) x))
        try_said vc =
            let z : last + 1 - d ≡ suc (last - d) = omega arith in
            g.same vc ∙ ap (λ n. tries (some limit) E (folds vc es) n d (found_in kept best) y.visits) z
            ∙ ap (λ o. onward o (λ x. tries (some limit) E (folds vc es) (last - d) (d + 1) (keep (found_in kept best) x))) (candidate-is vc)

        pub met-refused : {e : Stop} → here ≡ Err e → (w : List ℕ) (vc : ℕ) → Tells (All vc) w w (Err (blaming_none (refusal_in e)))
        met-refused {e} q w vc = rw (try_said vc, q) (record { says = refl; set = refl })

        pub trying_on : {o : Option ℕ} → here ≡ Ok o → {best1 : List ℕ} {kept1 : Reading} → Keeps kept best (Ok o) s2 kept1 best1 → Trying best1 kept1 y2 (d + 1)
        unfolding tally_of
        trying_on {o} q {best1} {kept1} k = record {
          good = k.good;
          whole = (p 0).held.whole;
          limited = (p 0).held.limit ∙ e.limit ∙ g.limited;
          low = omega (arith, g.low);
          high = omega arith;
          same = λ vc.
              let z : last - d ≡ last + 1 - (d + 1) = omega arith in
              try_said vc ∙ ap (λ o. onward o (λ x. tries (some limit) E (folds vc es) (last - d) (d + 1) (keep (found_in kept best) x))) (ap (λ r. said_of r s2 y2) q)
              ∙ ap (λ x. tries (some limit) E (folds vc es) (last - d) (d + 1) x y2.visits) (sym k.is)
              ∙ ap (λ n. tries (some limit) E (folds vc es) n (d + 1) (found_in kept1 best1) y2.visits) z;
        }
