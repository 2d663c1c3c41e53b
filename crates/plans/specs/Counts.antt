-- The table of expressions seen: empty, with the intermediates, and with one column after the other. Assumes nothing.
use Prim.Native.Nat.{ℕ, zero, suc, ◌+◌, ◌*◌, ◌<◌, ◌≤◌}
use Rattle.std.specs.Prelude.{◌≡◌, Bool, ◌||◌, List, [], ◌∷◌, ◌++◌, get_or, set, replicate, leb}
use Rattle.std.proofs.Math.Path.{refl, sym, ap}
use Rattle.std.proofs.Common.{◌∙◌, subst, add-one, length-set, length-append, get_or-set_same, get_or-set_other}
use Rattle.std.proofs.Math.Bool.{true, false, cond}
use native.Mathlib.Omega.{arith}
use Rattle.std.proofs.Math.ListN.{length}
use Rattle.std.proofs.lemmas.List.{length-replicate, get_or-replicate}
use Rattle.std.proofs.Math.Dec.{eqb}
use borrow.Author.Tests.{eqb-true, eqb-false, eq-eqb, le-leb, lt-leb}
use Rattle.plans.specs.Plan.{Is, Whole, any, number_limit, pu_count, im_count, product_count, f_of, t_of, num_of, den_of, im_of}
use Rattle.plans.specs.Columns.{record_limit, among, is_im, adding, lookups, products, columns, pair_records, most_columns, fits}
use Rattle.plans.specs.Among.{or-false, or_true, or_assoc, among-snoc}
use Rattle.plans.specs.Counting.{Tells, MarkAsks, Asked, Counted, known, added, marked}

-- ---- the table

pub none_told : (size : ℕ) → Tells size (λ _. false) (replicate size 0)
none_told size = record { full = length-replicate {A = ℕ} size 0; cell = λ e h. get_or-replicate {A = ℕ} size e 0 0 h }

module _ {size : ℕ} {so also : ℕ → Bool} {t : List ℕ} where
  pub told_same : ((x : ℕ) → so x ≡ also x) → Tells size so t → Tells size also t
  told_same e q = record { full = q.full; cell = λ x h. q.cell x h ∙ ap (λ a. cond a 1 0) (e x) }

  -- one more
  pub told-one : (e : ℕ) → e < size → ((x : ℕ) → also x ≡ (so x || eqb e x)) → Tells size so t → Tells size also (set t e 1)
  told-one e low more q = record { full = length-set t e 1 ∙ q.full; cell = λ x h. by x h (eqb e x) refl }
    where
      by : (x : ℕ) → x < size → (c : Bool) → eqb e x ≡ c → get_or (set t e 1) x 0 ≡ cond (also x) 1 0
      by x h true p =
          let is : also x ≡ true = more x ∙ ap (λ a. so x || a) p ∙ or_true (so x) in
          subst (λ y. get_or (set t e 1) y 0 ≡ 1) (eqb-true e x p) (get_or-set_same t e 1 0 (rw q.full low)) ∙ sym (ap (λ a. cond a 1 0) is)
      by x h false p =
          let is : also x ≡ so x = more x ∙ ap (λ a. so x || a) p ∙ or-false (so x) in
          get_or-set_other t e x 1 0 (λ z. eqb-false e x p (sym z)) ∙ q.cell x h ∙ sym (ap (λ a. cond a 1 0) is)

-- ---- the intermediates

module _ (b : List ℕ) where
  -- those before k
  abbrev pub im_before : ℕ → ℕ → Bool
  im_before k e = any (λ i. eqb (im_of b i) e) k

  pub im-low : {size : ℕ} {t : List ℕ} → MarkAsks size b t → {k e : ℕ} → k < im_count b → Is e (im_of b k) number_limit → e < size
  im-low {size} a {k} h g = subst (λ n. n < size) (sym g.is) (a.low k h (subst (λ n. n < number_limit) g.is g.low))

  pub im-next : {size : ℕ} (k : ℕ) {e : ℕ} {t : List ℕ} → e ≡ im_of b k → e < size → Tells size (im_before k) t → Tells size (im_before (k + 1)) (set t e 1)
  im-next k {e} is low = told-one e low (λ x. ap (λ n. any (λ i. eqb (im_of b i) x) n) (add-one k) ∙ ap (λ n. im_before k x || eqb n x) (sym is))

  pub im-all : {size k : ℕ} {t : List ℕ} → k ≤ im_count b → im_count b ≤ k → Tells size (im_before k) t → Tells size (known b []) t
  unfolding is_im among
  im-all {k = k} a c = let e : k ≡ im_count b = omega arith in told_same (λ x. ap (λ n. im_before n x) e ∙ sym (or-false (im_before (im_count b) x)))

-- an empty table for any number
pub all-asks : (b : List ℕ) → Whole b → MarkAsks number_limit b (replicate number_limit 0)
all-asks b w = record { whole = w; low = λ i h l. l; blank = none_told number_limit }

-- ---- one expression asked

module _ (t : List ℕ) (e : ℕ) where
  pub asked-seen : get_or t e 0 ≡ 1 → Asked t e 0 t
  unfolding added marked
  asked-seen h = let q : eqb (get_or t e 0) 1 ≡ true = eq-eqb _ 1 h in record { adds = rw q; marks = rw q }

  pub asked-new : (get_or t e 0 ≡ 1 → ⊥) → Asked t e 1 (set t e 1)
  unfolding added marked
  asked-new n = by (eqb (get_or t e 0) 1) refl
    where
      by : (c : Bool) → eqb (get_or t e 0) 1 ≡ c → Asked t e 1 (set t e 1)
      by true p = absurd (n (eqb-true (get_or t e 0) 1 p))
      by false p = record { adds = rw p; marks = rw p }

-- what is known of it by the table
module _ {t t' : List ℕ} {e r : ℕ} (a : Asked t e r t') (c : Bool) (p : eqb (get_or t e 0) 1 ≡ c) where
  asked-adds : r ≡ cond c 0 1
  unfolding added
  asked-adds = a.adds ∙ ap (λ z. cond z 0 1) p

  asked-marks : t' ≡ cond c t (set t e 1)
  unfolding marked
  asked-marks = a.marks ∙ ap (λ z. cond z t (set t e 1)) p

pub asked-size : {t t' : List ℕ} {e r : ℕ} → Asked t e r t' → length t' ≡ length t
asked-size {t} {t'} {e} a = by (eqb (get_or t e 0) 1) refl
  where
    by : (c : Bool) → eqb (get_or t e 0) 1 ≡ c → length t' ≡ length t
    by true p = ap length (asked-marks a true p)
    by false p = ap length (asked-marks a false p) ∙ length-set t e 1

pub asked-few : {t t' : List ℕ} {e r : ℕ} → Asked t e r t' → r ≤ 1
asked-few {t} {t'} {e} {r} a = by (eqb (get_or t e 0) 1) refl
  where
    by : (c : Bool) → eqb (get_or t e 0) 1 ≡ c → r ≤ 1
    by true p = omega (arith, asked-adds a true p)
    by false p = omega (arith, asked-adds a false p)

adding-is : (b cs : List ℕ) (e : ℕ) (c : Bool) → known b cs e ≡ c → adding b e cs ≡ cond c cs (cs ++ (e ∷ []))
unfolding adding
adding-is b cs e c p = ap (λ z. cond z cs (cs ++ (e ∷ []))) p

-- ---- the columns grow, or not

module _ {b cs ds t t' : List ℕ} {size n r limit : ℕ} (q : Counted size b cs n limit t) where
  counted-old : r ≡ 0 → t' ≡ t → ds ≡ cs → Counted size b ds (n + r) (limit + 1) t'
  counted-old f g h = record {
    tells = subst (λ l. Tells size (known b l) t') (sym h) (subst (λ l. Tells size (known b cs) l) (sym g) q.tells);
    count = omega (arith, q.count, f, ap length h);
    few = omega (arith, q.few, f);
  }

  counted-new : (e : ℕ) → e < size → r ≡ 1 → t' ≡ set t e 1 → ds ≡ cs ++ (e ∷ []) → Counted size b ds (n + r) (limit + 1) t'
  counted-new e low f g h = record {
    tells = subst (λ l. Tells size (known b l) t') (sym h) (subst (λ l. Tells size (known b (cs ++ (e ∷ []))) l) (sym g) (told-one e low more q.tells));
    count = omega (arith, q.count, f, ap length h, length-append cs (e ∷ []));
    few = omega (arith, q.few, f);
  }
    where
      more : (x : ℕ) → known b (cs ++ (e ∷ [])) x ≡ (known b cs x || eqb e x)
      more x = ap (λ z. is_im b x || z) (among-snoc x cs e) ∙ sym (or_assoc (is_im b x) (among x cs) (eqb e x))

pub counted-one : {size : ℕ} {b cs t t' : List ℕ} {e r n limit : ℕ} → e < size → Counted size b cs n limit t → Asked t e r t' → Counted size b (adding b e cs) (n + r) (limit + 1) t'
counted-one {size} {b} {cs} {t} {t'} {e} {r} {n} {limit} low q a = by (known b cs e) refl
  where
    by : (c : Bool) → known b cs e ≡ c → Counted size b (adding b e cs) (n + r) (limit + 1) t'
    by true p =
        let one : get_or t e 0 ≡ 1 = q.tells.cell e low ∙ ap (λ z. cond z 1 0) p in
        let seen : eqb (get_or t e 0) 1 ≡ true = eq-eqb (get_or t e 0) 1 one in
        counted-old q (asked-adds a true seen) (asked-marks a true seen) (adding-is b cs e true p)
    by false p =
        let none : get_or t e 0 ≡ 0 = q.tells.cell e low ∙ ap (λ z. cond z 1 0) p in
        let new : eqb (get_or t e 0) 1 ≡ false = ap (λ z. eqb z 1) none in
        counted-new q e low (asked-adds a false new) (asked-marks a false new) (adding-is b cs e false p)

-- ---- two at a time

-- one that is this one
asked_of : {size : ℕ} {b cs t t' : List ℕ} {e x r n limit : ℕ} → Is e x size → Counted size b cs n limit t → Asked t e r t' → Counted size b (adding b x cs) (n + r) (limit + 1) t'
asked_of {size} {b} {cs} {t} {t'} {e} {x} {r} {n} {limit} h q a = subst (λ y. Counted size b (adding b y cs) (n + r) (limit + 1) t') h.is (counted-one h.low q a)

counted-most : {size : ℕ} {b cs t : List ℕ} {n limit most : ℕ} → limit ≤ most → Counted size b cs n limit t → Counted size b cs n most t
counted-most {n = n} {limit = limit} {most = most} h q = record { tells = q.tells; count = q.count; few = omega (arith, q.few, h) }

counted-two :
    {size : ℕ} {b cs t t₁ t₂ : List ℕ} {e f x y r s n limit : ℕ} → Counted size b cs n limit t → Is e x size → Asked t e r t₁ → Is f y size → Asked t₁ f s t₂
    → Counted size b (adding b y (adding b x cs)) (n + r + s) (limit + 1 + 1) t₂
counted-two q h a k c = asked_of k (asked_of h q a) c

module _ {size : ℕ} (b : List ℕ) where
  pub no-lookups : {t : List ℕ} → Tells size (known b []) t → Counted size b (lookups b 0) 0 (2 * 0) t
  unfolding lookups
  no-lookups q = record { tells = q; count = refl; few = omega arith }

  pub no-products : {t : List ℕ} {n : ℕ} → Counted size b (lookups b (pu_count b)) n (2 * number_limit) t → Counted size b (products b 0) n (2 * number_limit + 2 * 0) t
  unfolding products
  no-products q = counted-most (omega arith) q

  module _ (i : ℕ) {t t₁ t₂ : List ℕ} {e f r s n : ℕ} where
    pub lookups-next :
        Counted size b (lookups b i) n (2 * i) t → Is e (f_of b i) size → Asked t e r t₁ → Is f (t_of b i) size → Asked t₁ f s t₂
        → Counted size b (lookups b (i + 1)) (n + r + s) (2 * (i + 1)) t₂
    unfolding lookups
    lookups-next q h a k c = rw (add-one i) (counted-most (omega arith) (counted-two q h a k c))

    pub products-next :
        Counted size b (products b i) n (2 * number_limit + 2 * i) t → Is e (num_of b i) size → Asked t e r t₁ → Is f (den_of b i) size → Asked t₁ f s t₂
        → Counted size b (products b (i + 1)) (n + r + s) (2 * number_limit + 2 * (i + 1)) t₂
    unfolding products
    products-next q h a k c = rw (add-one i) (counted-most (omega arith) (counted-two q h a k c))

  module _ {t : List ℕ} {i n : ℕ} where
    pub lookups-end : i ≤ pu_count b → pu_count b ≤ i → pu_count b < number_limit → Counted size b (lookups b i) n (2 * i) t → Counted size b (lookups b (pu_count b)) n (2 * number_limit) t
    lookups-end g h l q = let e : i ≡ pu_count b = omega arith in subst (λ k. Counted size b (lookups b k) n (2 * number_limit) t) e (counted-most (omega arith) q)

    pub products-end :
        i ≤ product_count b → product_count b ≤ i → product_count b < 3 * number_limit → Counted size b (products b i) n (2 * number_limit + 2 * i) t → Counted size b (columns b) n (8 * number_limit) t
    products-end g h l q = let e : i ≡ product_count b = omega arith in subst (λ k. Counted size b (products b k) n (8 * number_limit) t) e (counted-most (omega arith) q)

module _ (b : List ℕ) where
  -- ---- the limit

  adding-few : (e : ℕ) (cs : List ℕ) → length (adding b e cs) ≤ length cs + 1
  adding-few e cs = by (known b cs e) refl
    where
      by : (c : Bool) → known b cs e ≡ c → length (adding b e cs) ≤ length cs + 1
      by true p = omega (arith, ap length (adding-is b cs e true p))
      by false p = omega (arith, ap length (adding-is b cs e false p), length-append cs (e ∷ []))

  lookups-few : (i : ℕ) → length (lookups b i) ≤ 2 * i
  unfolding lookups
  lookups-few zero = omega arith
  lookups-few (suc i) = omega (arith, lookups-few i, adding-few (f_of b i) (lookups b i), adding-few (t_of b i) (adding b (f_of b i) (lookups b i)))

  products-few : (i : ℕ) → length (products b i) ≤ 2 * (pu_count b + i)
  unfolding products
  products-few zero = omega (arith, lookups-few (pu_count b))
  products-few (suc i) = omega (arith, products-few i, adding-few (num_of b i) (products b i), adding-few (den_of b i) (adding b (num_of b i) (products b i)))

  module _ {p limit : ℕ} (h : Is p (pair_records b) limit) where
    pub too_many_lem : record_limit < p → false ≡ fits b
    unfolding fits
    too_many_lem g = sym (lt-leb (pair_records b + length (columns b)) record_limit (omega (arith, h.is, g)))

    pub room_for_all : {m most : ℕ} → Is m (most_columns b) most → p + m ≤ record_limit → true ≡ fits b
    unfolding fits
    room_for_all g r = sym (le-leb (pair_records b + length (columns b)) record_limit (omega (arith, h.is, g.is, r, products-few (product_count b))))

    pub by-columns : {size n most : ℕ} {t : List ℕ} → Counted size b (columns b) n most t → leb (p + n) record_limit ≡ fits b
    unfolding fits
    by-columns q = rw (h.is, q.count)
