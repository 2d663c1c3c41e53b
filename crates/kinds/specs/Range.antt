-- Ranges of numbers, both ends counted: as a test, and a rule that is proved over a whole range by one test that antt computes.
-- Assumes nothing.
use Rattle.std.specs.Prelude.{◌≡◌, refl, Bool, true, false, not, ◌&&◌, ℕ, zero, suc, ◌+◌, ◌-◌, ◌≤◌, ◌<◌, ◌⊎◌, T, leb, eqb}
use Rattle.std.proofs.Common.{sym, subst, true≢false, eq-or-lt_of_le, arith, inl, inr, eqb→eq, le-leb, leb-true}
use Rattle.std.proofs.lemmas.Bool.{lt-leb}

-- ---- a test

-- a to b
unfoldable pub within : ℕ → ℕ → ℕ → Bool
within a b k = leb a k && leb k b

pub within_in : (a b k : ℕ) → (a ≤ k) × (k ≤ b) → within a b k ≡ true
unfolding within
within_in a b k h = simp (le-leb a k h.0, le-leb k b h.1)

pub within-below : (a b k : ℕ) → k < a → within a b k ≡ false
unfolding within
within-below a b k h = simp (lt-leb a k h)

pub within-above : (a b k : ℕ) → b < k → within a b k ≡ false
unfolding within
within-above a b k h = by (leb a k)
  where
    by : (t : Bool) → (t && leb k b) ≡ false
    by true = lt-leb k b h
    by false = refl

pub within-true : (a b k : ℕ) → within a b k ≡ true → (a ≤ k) × (k ≤ b)
unfolding within
within-true a b k e = by (leb a k) (leb-true a k) e
  where
    by : (t : Bool) → (t ≡ true → a ≤ k) → (t && leb k b) ≡ true → (a ≤ k) × (k ≤ b)
    by true f e = (f refl, leb-true k b e)
    by false f e = absurd (true≢false (sym e))

-- ---- a rule

-- p passes at each of the n numbers from a on
abbrev pub passes : (ℕ → Bool) → ℕ → ℕ → Bool
passes p a zero = true
passes p a (suc n) = p a && passes p (suc a) n

both : (s t : Bool) → T (s && t) → T s × T t
both true t h = (tt, h)
both false t h = absurd h

pub pass : (p : ℕ → Bool) (n a : ℕ) → T (passes p a n) → (k : ℕ) → (a ≤ k) × (k < a + n) → T (p k)
pass p zero a t k h = absurd (omega arith)
pass p (suc n) a t k h = by (eq-or-lt_of_le h.0) (pass p n (suc a) here.1 k)
  where
    here : T (p a) × T (passes p (suc a) n)
    here = both (p a) (passes p (suc a) n) t

    by : (a ≡ k) ⊎ (a < k) → ((suc a ≤ k) × (k < suc a + n) → T (p k)) → T (p k)
    by (inl e) rest = subst (λ (m : ℕ). T (p m)) e here.0
    by (inr g) rest = rest (omega arith)

-- f is v from a to b
pub value-over : (f : ℕ → ℕ) (v a b : ℕ) → T (passes (λ k. eqb v (f k)) a (suc b - a)) → (k : ℕ) → (a ≤ k) × (k ≤ b) → v ≡ f k
value-over f v a b t k h = eqb→eq v (f k) (pass (λ k. eqb v (f k)) (suc b - a) a t k (omega arith))

pub true-over : (f : ℕ → Bool) (a b : ℕ) → T (passes f a (suc b - a)) → (k : ℕ) → (a ≤ k) × (k ≤ b) → true ≡ f k
true-over f a b t k h = is (f k) (pass f (suc b - a) a t k (omega arith))
  where
    is : (s : Bool) → T s → true ≡ s
    is true t = refl
    is false t = absurd t

pub false-over : (f : ℕ → Bool) (a b : ℕ) → T (passes (λ k. not (f k)) a (suc b - a)) → (k : ℕ) → (a ≤ k) × (k ≤ b) → false ≡ f k
false-over f a b t k h = is (f k) (pass (λ k. not (f k)) (suc b - a) a t k (omega arith))
  where
    is : (s : Bool) → T (not s) → false ≡ s
    is true t = absurd t
    is false t = refl
