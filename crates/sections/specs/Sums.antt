-- Sums over the numbers below n, and the list of a function's values there, with their laws.
-- Assumes nothing.
use Rattle.std.specs.Prelude.{ℕ, zero, suc, ◌+◌, ◌*◌, ◌≤◌, ◌<◌, ◌≡◌, refl, cond, List, [], ◌∷◌, ◌++◌, ◌⊎◌, length, get_or, ltb}
use Rattle.std.proofs.Common.{sym, ◌∙◌, ap, inl, inr, eq-or-lt_of_le, add-zero, arith, length-append, lt-ltb, le-ltb}
use Rattle.std.proofs.Math.ListN.{get_or-append}
use Rattle.std.proofs.lemmas.List.{get_or_at}

-- f 0 + .. + f (n - 1)
abbrev pub sum : (ℕ → ℕ) → ℕ → ℕ
sum f zero = 0
sum f (suc n) = sum f n + f n

-- f 0, .., f (n - 1)
abbrev pub each : (ℕ → ℕ) → ℕ → List ℕ
each f zero = []
each f (suc n) = each f n ++ (f n ∷ [])

pub sum_same : (f g : ℕ → ℕ) (n : ℕ) → ((j : ℕ) → j < n → f j ≡ g j) → sum f n ≡ sum g n
sum_same f g zero h = refl
sum_same f g (suc n) h =
    let e : sum f n ≡ sum g n = sum_same f g n (λ j q. h j (omega arith)) in
    let e' : f n ≡ g n = h n (omega arith) in
    cc

pub sum-add : (f g : ℕ → ℕ) (n : ℕ) → sum (λ j. f j + g j) n ≡ sum f n + sum g n
sum-add f g zero = refl
sum-add f g (suc n) =
    let e : sum (λ j. f j + g j) n ≡ sum f n + sum g n = sum-add f g n in
    omega arith

-- what counts only below k
pub sum-cut : (f : ℕ → ℕ) (k n : ℕ) → k ≤ n → sum (λ j. cond (ltb j k) (f j) 0) n ≡ sum f k
sum-cut f k zero h = let e : k ≡ 0 = omega arith in rw e
sum-cut f k (suc n) h = by (eq-or-lt_of_le h) (sum-cut f k n)
  where
    all : (m : ℕ) → m ≤ k → sum (λ j. cond (ltb j k) (f j) 0) m ≡ sum f m
    all m g = sum_same (λ j. cond (ltb j k) (f j) 0) f m (λ j q. rw (lt-ltb j k (omega arith)))

    by : (k ≡ suc n) ⊎ (k < suc n) → (k ≤ n → sum (λ j. cond (ltb j k) (f j) 0) n ≡ sum f k) → sum (λ j. cond (ltb j k) (f j) 0) (suc n) ≡ sum f k
    by (inl e) less = all (suc n) (omega arith) ∙ ap (sum f) (sym e)
    by (inr g) less = rw (le-ltb n k (omega arith)) (add-zero _ ∙ less (omega arith))

pub sum-small : (f : ℕ → ℕ) (m n : ℕ) → ((j : ℕ) → f j ≤ m) → sum f n ≤ m * n
sum-small f m zero h = omega arith
sum-small f m (suc n) h =
    let e : sum f n ≤ m * n = sum-small f m n h in
    let e' : f n ≤ m = h n in
    omega arith

pub each-length : (f : ℕ → ℕ) (n : ℕ) → length (each f n) ≡ n
each-length f zero = refl
each-length f (suc n) = length-append (each f n) (f n ∷ []) ∙ rw (each-length f n) (omega arith)

pub each_at : (f : ℕ → ℕ) (k n : ℕ) → k < n → get_or (each f n) k 0 ≡ f k
each_at f k zero h = absurd (omega arith)
each_at f k (suc n) h = by (eq-or-lt_of_le h) (each_at f k n)
  where
    by : (suc k ≡ suc n) ⊎ (suc k < suc n) → (k < n → get_or (each f n) k 0 ≡ f k) → get_or (each f n ++ (f n ∷ [])) k 0 ≡ f k
    by (inl e) less =
        let q : k ≡ n = omega arith in
        rw q (get_or_at (each f n) (f n) [] 0 n (each-length f n))
    by (inr g) less = get_or-append (each f n) (f n ∷ []) 0 k (rw (each-length f n) (omega arith)) ∙ less (omega arith)
