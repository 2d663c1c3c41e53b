-- Readings: the degree of one, after one that gave no degree, and as numbers.
-- Assumes nothing.
use Prim.Native.Nat.{ℕ, ◌<◌, ◌≤◌}
use mathlib.Core.Path.{◌≡◌, refl, sym, ◌∙◌, ap, subst}
use mathlib.Core.Bool.{Bool, true, false, cond}
use mathlib.Core.Option.{none}
use native.Mathlib.Omega.{arith}
use lib.Dec.{eqb}
use Rattle.std.specs.Prelude.{Option, Some, None, Ok, Err, is_some}
use borrow.Author.Tests.{ne_eqb, le-ltb}
use Rattle.meaning.specs.Refusals.{Refusal}
use Rattle.search_meaning.specs.Search.{Tally, done, refused, counted, Reads, visit}
use Rattle.degree_rule.specs.declared.reading.Stop.{Stop}
use Rattle.degree_rule.specs.declared.reading.Stop.TheVariants.{BadKind, OverLimit}
use Rattle.degree_rule.specs.Tallies.{Counts, tally_of, limit_in, Whole, Entered}
use Rattle.degree_rule.specs.Readings.{Reading, reading_of, degree_at, degree_in, is_degree, Passed}
use Rattle.degree_rule.specs.Laws.{held_same, reading-low}

-- ── the degree of a reading ──────────────────────────────────────────────────
pub no-degree : (r : Reading) → degree_at r ≡ None → is_degree r ≡ false
no-degree (Ok None) h = refl
no-degree (Ok (Some n)) h = absurd (let z : ◌≡◌ {A = ℕ} 0 1 = cc in omega arith)
no-degree (Err e) h = refl

pub degree-is : (r : Reading) {n : ℕ} → degree_at r ≡ Some n → r ≡ Ok (Some n)
degree-is (Ok o) h = rw h
degree-is (Err e) h = absurd (let z : ◌≡◌ {A = ℕ} 0 1 = cc in omega arith)

pub degree-low : (c : ℕ) → c < 18 → Some c ≡ degree_at (reading_of c)
degree-low c h = rw (reading-low c (omega arith))

pub degree-high : (c : ℕ) → 18 ≤ c → None ≡ degree_at (reading_of c)
degree-high c h = rw (le-ltb c 18 h) (go (eqb c 18) (eqb c 19))
  where
    go : (a b : Bool) → None ≡ degree_at (cond a (Ok None) (cond b (Err BadKind) (Err OverLimit)))
    go true b = refl
    go false true = refl
    go false false = refl

-- ── after a first that is something, or refused ──────────────────────────────
pub pass-degree : {a : Reading} {o : Option ℕ} (t : Counts) → Whole t → a ≡ Ok o → is_some o ≡ true → Passed a t a t
pass-degree {a} {o} t w q h = rw q (go o h)
  where
    go : (o : Option ℕ) → is_some o ≡ true → Passed (Ok o) t (Ok o) t
    go None h = absurd (let z : ◌≡◌ {A = ℕ} 0 1 = cc in omega arith)
    go (Some n) h = record { same = λ q. absurd (let z : ◌≡◌ {A = ℕ} 0 1 = cc in omega arith); none = λ q. q; held = held_same t w }

pub pass-refused : {a : Reading} {e : Stop} (t : Counts) → Whole t → a ≡ Err e → Passed a t (Err e) t
pass-refused {a} {e} t w q = rw q (record { same = λ h f m s. refl; none = λ h. h; held = held_same t w })

-- a visit that is entered with no set
module _ {a : Reading} {o : Option ℕ} (qo : a ≡ Ok o) (h : is_some o ≡ false) {t : Counts} {b : Bool} {t' : Counts} (e : Entered t b t') where
  q : a ≡ Ok None
  q = qo ∙ ap Ok (go o h)
    where
      go : (o : Option ℕ) → is_some o ≡ false → o ≡ None
      go None h = refl
      go (Some n) h = absurd (let z : ◌≡◌ {A = ℕ} 0 1 = cc in omega arith)

  enter-none : (c : Bool) → b ≡ c → (f : Reads) (m : ℕ) → visit (limit_in t) f none m (tally_of t) ≡ cond c (done none (counted (tally_of t))) (refused Refusal.visits (tally_of t).visits)
  unfolding tally_of
  enter-none c z f m = rw (sym e.may ∙ z)

  pub pass-counted : b ≡ true → Passed a t a t'
  pass-counted z =
      let k : tally_of t' ≡ counted (tally_of t) = e.is ∙ ap (λ c. cond c (counted (tally_of t)) (tally_of t)) z in
      subst (λ a. Passed a t a t') (sym q) (record { same = λ h f m s. ap (done none) k ∙ sym (enter-none true z f m); none = λ h. h; held = e.held })

  pub pass-over : b ≡ false → Passed a t (Err OverLimit) t'
  pass-over z =
      let k : tally_of t' ≡ tally_of t = e.is ∙ ap (λ c. cond c (counted (tally_of t)) (tally_of t)) z in
      subst (λ a. Passed a t (Err OverLimit) t') (sym q) (record { same = λ h f m s. ap (λ (y : Tally). refused Refusal.visits y.visits) k ∙ sym (enter-none false z f m); none = λ h. refl; held = e.held })

-- ── as numbers ───────────────────────────────────────────────────────────────
pub low_reads : (c : ℕ) → c < 18 → Ok (Some c) ≡ reading_of c
low_reads c h = sym (reading-low c (omega arith))

module _ (c : ℕ) (h : 18 ≤ c) where
  pub nothing-reads : c ≡ 18 → Ok None ≡ reading_of c
  nothing-reads q = rw q

  module _ (n : c ≡ 18 → ⊥) where
    pub bad-reads : c ≡ 19 → Err BadKind ≡ reading_of c
    bad-reads q = rw q

    pub over_reads : (c ≡ 19 → ⊥) → Err OverLimit ≡ reading_of c
    over_reads u = rw (le-ltb c 18 h, ne_eqb c 18 n, ne_eqb c 19 u)

pub degree-code : (r : Reading) {n : ℕ} → r ≡ Ok (Some n) → degree_in r ≤ 17 → reading_of n ≡ r
degree-code r {n} q h = reading-low n (subst (λ r. degree_in r ≤ 17) q h) ∙ sym q
