-- A TEST FAILS EXACTLY WHEN: of two numbers, of one test and another, of every number below one. And what holds where it does not.
-- Assumes nothing.
use Rattle.std.specs.Prelude.{ℕ, zero, suc, ◌<◌, ◌≤◌, ◌≡◌, refl, Bool, true, false, ◌&&◌, ◌⊎◌, ◌↔◌, eqb, leb, ltb}
use Rattle.std.proofs.Common.{sym, ◌∙◌, ap, subst, true≢false, inl, inr, arith, eq-or-lt_of_le, le_of_suc-le-suc, not-suc-le-zero, ltb-false, le-ltb, leb-false, ne_eqb}
use Rattle.std.proofs.lemmas.Bool.{lt-leb, eqb-false}
use Rattle.plans.specs.Plan.{every}
use Rattle.plans.specs.Every.{and-false, every-fails}

abbrev pub Fails : Bool → Type 0 → Type 0
Fails t P = (t ≡ false) ↔ P

-- the same, said otherwise
pub fails_as : {t : Bool} {P Q : Type 0} → Fails t P → (P → Q) → (Q → P) → Fails t Q
fails_as f to back = (λ e. to (f.0 e), λ q. f.1 (back q))

-- ---- of two numbers

pub below_fails : (a m : ℕ) → Fails (ltb a m) (m ≤ a)
below_fails a m = (ltb-false a m, le-ltb a m)

pub most-fails : (a m : ℕ) → Fails (leb a m) (m < a)
most-fails a m = (leb-false a m, lt-leb a m)

pub same-fails : (a b : ℕ) → Fails (eqb a b) (a ≡ b → ⊥)
same-fails a b = (eqb-false a b, ne_eqb a b)

-- ---- of one and another

and_one : (a b : Bool) → (a && b) ≡ false → (a ≡ false) ⊎ (b ≡ false)
and_one true b e = inr e
and_one false b e = inl refl

pub and-fails : {a b : Bool} {P Q : Type 0} → Fails a P → Fails b Q → Fails (a && b) (P ⊎ Q)
and-fails {a} {b} {P} {Q} f g = (λ e. to (and_one a b e), back)
  where
    to : (a ≡ false) ⊎ (b ≡ false) → P ⊎ Q
    to (inl e) = inl (f.0 e)
    to (inr e) = inr (g.0 e)

    back : P ⊎ Q → (a && b) ≡ false
    back (inl p) = ap (λ z. z && b) (f.1 p)
    back (inr q) = ap (λ z. a && z) (g.1 q) ∙ and-false a

pub and_first : (a b : Bool) → (a && b) ≡ true → a ≡ true
and_first true b e = refl
and_first false b e = absurd (true≢false (sym e))

pub and_second : (a b : Bool) → (a && b) ≡ true → b ≡ true
and_second true b e = e
and_second false b e = absurd (true≢false (sym e))

-- ---- of every number below one

some-fails : (f : ℕ → Bool) (n : ℕ) → every f n ≡ false → (i : ℕ) × (i < n) × (f i ≡ false)
some-fails f zero e = absurd (true≢false e)
some-fails f (suc n) e = go (some-fails f n) (and_one (every f n) (f n) e)
  where
    go : (every f n ≡ false → (i : ℕ) × (i < n) × (f i ≡ false)) → (every f n ≡ false) ⊎ (f n ≡ false) → (i : ℕ) × (i < suc n) × (f i ≡ false)
    go ih (inl q) = let s = ih q in (s.0, let h : s.0 < n = s.1 in omega arith, s.2)
    go ih (inr q) = (n, omega arith, q)

pub some_fail : {f : ℕ → Bool} {P : ℕ → Type 0} → ((i : ℕ) → Fails (f i) (P i)) → (n : ℕ) → Fails (every f n) ((i : ℕ) × (i < n) × P i)
some_fail {f} {P} g n = (λ e. let s = some-fails f n e in (s.0, s.1, (g s.0).0 s.2), λ s. sym (every-fails f n s.0 s.1 ((g s.0).1 s.2)))

pub every_holds : (f : ℕ → Bool) (n : ℕ) → every f n ≡ true → (i : ℕ) → i < n → f i ≡ true
every_holds f zero e i h = absurd (not-suc-le-zero h)
every_holds f (suc n) e i h = go (every_holds f n (and_first (every f n) (f n) e)) (eq-or-lt_of_le (le_of_suc-le-suc h))
  where
    go : ((j : ℕ) → j < n → f j ≡ true) → (i ≡ n) ⊎ (i < n) → f i ≡ true
    go ih (inl q) = subst (λ j. f j ≡ true) (sym q) (and_second (every f n) (f n) e)
    go ih (inr l) = ih i l
