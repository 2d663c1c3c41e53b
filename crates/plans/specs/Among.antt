-- Laws of a disjunction, of a test of some number below one, and of what stands in a list. Assumes nothing.
use Rattle.std.specs.Prelude.{ℕ, zero, suc, ◌<◌, ◌≡◌, refl, Bool, true, false, ◌||◌, ◌⊎◌, List, [], ◌∷◌, ◌++◌, length, get_or, eqb}
use Rattle.std.proofs.Common.{sym, ◌∙◌, ap, subst, true≢false, inl, inr, arith, eq-or-lt_of_le, le_of_suc-le-suc, not-suc-le-zero, eqb-true, eq-eqb, ne_eqb}
use Rattle.std.proofs.lemmas.Bool.{eqb-false}
use Rattle.plans.specs.Plan.{any}
use Rattle.plans.specs.Columns.{among}

pub or-false : (a : Bool) → (a || false) ≡ a
or-false true = refl
or-false false = refl

pub or_true : (a : Bool) → (a || true) ≡ true
or_true true = refl
or_true false = refl

pub or_assoc : (a b c : Bool) → ((a || b) || c) ≡ (a || (b || c))
or_assoc true b c = refl
or_assoc false b c = refl

-- one of the two; neither
pub or_one : (a b : Bool) → (a || b) ≡ true → (a ≡ true) ⊎ (b ≡ true)
or_one true b e = inl refl
or_one false b e = inr e

pub or_first : (a b : Bool) → (a || b) ≡ false → a ≡ false
or_first true b e = e
or_first false b e = refl

pub or_second : (a b : Bool) → (a || b) ≡ false → b ≡ false
or_second true b e = absurd (true≢false e)
or_second false b e = e

-- ---- some number below one

pub any_some : (f : ℕ → Bool) (n : ℕ) → any f n ≡ true → (i : ℕ) × (i < n) × (f i ≡ true)
any_some f zero h = absurd (true≢false (sym h))
any_some f (suc n) h = go (any_some f n) (or_one (any f n) (f n) h)
  where
    go : (any f n ≡ true → (i : ℕ) × (i < n) × (f i ≡ true)) → (any f n ≡ true) ⊎ (f n ≡ true) → (i : ℕ) × (i < suc n) × (f i ≡ true)
    go ih (inl t) = let s = ih t in (s.0, let l : s.0 < n = s.1 in omega arith, s.2)
    go ih (inr t) = (n, omega arith, t)

pub some-any : (f : ℕ → Bool) (n i : ℕ) → i < n → f i ≡ true → any f n ≡ true
some-any f zero i h q = absurd (not-suc-le-zero h)
some-any f (suc n) i h q = go (some-any f n i) (eq-or-lt_of_le (le_of_suc-le-suc h))
  where
    go : (i < n → f i ≡ true → any f n ≡ true) → (i ≡ n) ⊎ (i < n) → (any f n || f n) ≡ true
    go ih (inl e) = ap (λ z. any f n || z) (subst (λ j. f j ≡ true) e q) ∙ or_true (any f n)
    go ih (inr l) = ap (λ z. z || f n) (ih l q)

-- ---- what stands in a list

pub eqb-sym : (a b : ℕ) → eqb a b ≡ eqb b a
eqb-sym a b = by (eqb a b) refl
  where
    by : (c : Bool) → eqb a b ≡ c → eqb a b ≡ eqb b a
    by true p = p ∙ sym (eq-eqb b a (sym (eqb-true a b p)))
    by false p = p ∙ sym (ne_eqb b a (λ e. eqb-false a b p (sym e)))

-- in a list with one more at its end
pub among-snoc : (e : ℕ) (cs : List ℕ) (x : ℕ) → among e (cs ++ (x ∷ [])) ≡ (among e cs || eqb x e)
unfolding among
among-snoc e [] x = or-false (eqb e x) ∙ eqb-sym e x
among-snoc e (c ∷ cs) x = ap (λ z. eqb e c || z) (among-snoc e cs x) ∙ sym (or_assoc (eqb e c) (among e cs) (eqb x e))

-- what stands at a place of it
pub among-at : (cs : List ℕ) (k : ℕ) → k < length cs → among (get_or cs k 0) cs ≡ true
unfolding among
among-at [] k h = absurd (not-suc-le-zero h)
among-at (c ∷ cs) zero h = ap (λ z. z || among c cs) (eq-eqb c c refl)
among-at (c ∷ cs) (suc k) h = ap (λ z. eqb (get_or cs k 0) c || z) (among-at cs k (le_of_suc-le-suc h)) ∙ or_true (eqb (get_or cs k 0) c)
