-- Laws of readings and tallies that those who call the degree rule use too.
-- Assumes nothing.
use Rattle.std.specs.Prelude.{ℕ, ◌≤◌, ◌≡◌, refl, Bool, true, false, not, List, Some, None, Ok, Err}
use Rattle.std.proofs.Common.{sym, ◌∙◌, subst, arith, lt-ltb}
use Rattle.std.proofs.Math.Option.{none}
use Rattle.search_meaning.specs.Search.{Tally, Out, done, Search, next, Found, both}
use Rattle.degree_rule.specs.Tallies.{Counts, tally_of, Whole, Held}
use Rattle.degree_rule.specs.Readings.{Reading, reading_of, found_in, said_of, degree_in, is_degree, refused_in}
use Rattle.degree_rule.specs.Visiting.{Gives}

-- ── tests ────────────────────────────────────────────────────────────────────
pub not_taken : (b : Bool) → not b ≡ true → b ≡ false
not_taken true h = sym h
not_taken false h = refl

pub not_left : (b : Bool) → not b ≡ false → b ≡ true
not_left true h = refl
not_left false h = sym h

-- ── tallies ──────────────────────────────────────────────────────────────────
pub held_same : (t : Counts) → Whole t → Held t t
held_same t w = record { whole = w; limit = refl; degree = refl }

-- one after the other
pub held_then : {t t1 t2 : Counts} → Held t t1 → Held t1 t2 → Held t t2
held_then a b = record { whole = b.whole; limit = b.limit ∙ a.limit; degree = b.degree ∙ a.degree }

-- ── readings ─────────────────────────────────────────────────────────────────
-- what gave no degree goes on as it is
pub stuck : (r : Reading) (s : List ℕ) (y : Counts) (f : Found → Search Found) → is_degree r ≡ false → ((k : Tally) → f none k ≡ done none k) → next (said_of r s y) f ≡ said_of r s y
stuck (Ok (Some n)) s y f h g = absurd (let z : ◌≡◌ {A = ℕ} 0 1 = cc in omega arith)
stuck (Ok None) s y f h g = g (tally_of y)
stuck (Err e) s y f h g = refl

pub no-low : (r : Reading) (m : ℕ) → is_degree r ≡ false → degree_in r ≤ m
no-low (Ok (Some n)) m h = absurd (let z : ◌≡◌ {A = ℕ} 0 1 = cc in omega arith)
no-low (Ok None) m h = omega arith
no-low (Err e) m h = omega arith

-- two one after the other, of which the second follows the first
pub pair-said :
    (δ : ℕ → ℕ → ℕ) (q : Reading) (s : List ℕ) (y : Counts) (W : Found → Search Found) →
    next (said_of q s y) (λ x k. next (W x k) (λ z k'. done (both δ x z) k')) ≡ next (next (said_of q s y) W) (λ z k. done (both δ (found_in q s) z) k)
pair-said δ (Ok (Some n)) s y W = refl
pair-said δ (Ok None) s y W = refl
pair-said δ (Err e) s y W = refl

pub calm-said : (r : Reading) (s : List ℕ) (y : Counts) → refused_in r ≡ false → said_of r s y ≡ done (found_in r s) (tally_of y)
calm-said (Ok o) s y h = refl
calm-said (Err e) s y h = absurd (let z : ◌≡◌ {A = ℕ} 0 1 = cc in omega arith)

pub refused-said : (r : Reading) (s : List ℕ) (y : Counts) (f : Found → Search Found) → refused_in r ≡ true → next (said_of r s y) f ≡ said_of r s y
refused-said (Ok o) s y f h = absurd (let z : ◌≡◌ {A = ℕ} 0 1 = cc in omega arith)
refused-said (Err e) s y f h = refl

-- ── readings as numbers ──────────────────────────────────────────────────────
pub reading-low : (n : ℕ) → n ≤ 17 → reading_of n ≡ Ok (Some n)
reading-low n h = rw (lt-ltb n 18 (omega arith))

-- what is given of a reading is given of its number
pub to-code :
    {says : ℕ → Out Found} {levels m : ℕ} {y : Counts} {s' : List ℕ} {y' : Counts} (c : ℕ) {r : Reading} → reading_of c ≡ r → Gives says levels m y s' y' r → Gives says levels m y s' y' (reading_of c)
to-code {says} {levels} {m} {y} {s'} {y'} c q g = subst (Gives says levels m y s' y') (sym q) g

pub as_read :
    {says : ℕ → Out Found} {levels m : ℕ} {y : Counts} {s' : List ℕ} {y' : Counts} (c : ℕ) {r : Reading} → r ≡ reading_of c → Gives says levels m y s' y' (reading_of c) → Gives says levels m y s' y' r
as_read {says} {levels} {m} {y} {s'} {y'} c q g = subst (Gives says levels m y s' y') (sym q) g
