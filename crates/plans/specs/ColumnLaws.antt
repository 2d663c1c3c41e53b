-- THE LAWS OF THE TEMPORARY COLUMNS: an expression has a column exactly when a pu or a grand product names it and it is no intermediate, and it has
-- only one. Assumes nothing.
use Rattle.std.specs.Prelude.{ℕ, zero, suc, ◌<◌, ◌≤◌, ◌≡◌, Bool, ◌||◌, cond, List, [], ◌∷◌, ◌++◌, ◌⊎◌, ◌↔◌, length, get_or}
use Rattle.std.proofs.Math.Path.{refl}
use Rattle.std.proofs.Common.{sym, ◌∙◌, ap, subst, true≢false, inl, inr, ⊎_elim, arith, eq-or-lt_of_le, le_of_suc-le-suc, not-suc-le-zero, length-append}
use Rattle.std.proofs.Math.Bool.{true, false, false≢true}
use Rattle.std.proofs.Math.ListN.{get_or-append}
use Rattle.std.proofs.lemmas.List.{get_or_at}
use Rattle.std.proofs.Math.Dec.{eqb}
use borrow.Author.Tests.{eqb-true, eq-eqb}
use Rattle.plans.specs.Plan.{pu_count, im_count, product_count, f_of, t_of, num_of, den_of, im_of, any}
use Rattle.plans.specs.Columns.{among, is_im, adding, lookups, products, columns}
use Rattle.plans.specs.Among.{or_one, or_first, or_second, or_true, any_some, some-any, among-snoc, among-at}

-- ── what can be said of expressions with columns ─────────────────────────────
-- no two places hold the same
abbrev pub Apart : List ℕ → Type 0
Apart cs = (i k : ℕ) → i < k → k < length cs → get_or cs i 0 ≡ get_or cs k 0 → ⊥

-- of the first n pairs, one names it
abbrev pub OfPairs : (ℕ → ℕ) → (ℕ → ℕ) → ℕ → ℕ → Type 0
OfPairs g h n e = (i : ℕ) × (i < n) × ((g i ≡ e) ⊎ (h i ≡ e))

module _ (b : List ℕ) where
  -- none is an intermediate
  abbrev pub NoIm : List ℕ → Type 0
  NoIm cs = (e : ℕ) → among e cs ≡ true → is_im b e ≡ false

  -- an intermediate
  abbrev pub Im : ℕ → Type 0
  Im e = (i : ℕ) × (i < im_count b) × (im_of b i ≡ e)

  -- f or t of some pu, or num or den of some grand product
  abbrev pub Named : ℕ → Type 0
  Named e = OfPairs (f_of b) (t_of b) (pu_count b) e ⊎ OfPairs (num_of b) (den_of b) (product_count b) e

-- ── one more ─────────────────────────────────────────────────────────────────
apart_none : Apart []
apart_none i k h l e = absurd (not-suc-le-zero l)

apart_snoc : (cs : List ℕ) (e : ℕ) → among e cs ≡ false → Apart cs → Apart (cs ++ (e ∷ []))
apart_snoc cs e new a i k h l q = go (eq-or-lt_of_le (le_of_suc-le-suc (let z : suc k ≤ suc (length cs) = omega (arith, l, length-append cs (e ∷ [])) in z)))
  where
    early : (j : ℕ) → j < length cs → get_or (cs ++ (e ∷ [])) j 0 ≡ get_or cs j 0
    early j m = get_or-append cs (e ∷ []) 0 j m

    go : (k ≡ length cs) ⊎ (k < length cs) → ⊥
    go (inl p) =
        let m : i < length cs = omega arith in
        let is : get_or cs i 0 ≡ e = sym (early i m) ∙ q ∙ get_or_at cs e [] 0 k (sym p) in
        true≢false (sym (subst (λ x. among x cs ≡ true) is (among-at cs i m)) ∙ new)
    go (inr m) = a i k h m (sym (early i (omega arith)) ∙ q ∙ early k m)

module _ (b : List ℕ) (x : ℕ) (cs : List ℕ) where
  -- it is added, or not
  data Case : List ℕ → Type 0 where
    kept : (is_im b x || among x cs) ≡ true → Case cs
    more : is_im b x ≡ false → among x cs ≡ false → Case (cs ++ (x ∷ []))

  adding-case : Case (adding b x cs)
  unfolding adding
  adding-case = by (is_im b x || among x cs) refl
    where
      by : (c : Bool) → (is_im b x || among x cs) ≡ c → Case (cond c cs (cs ++ (x ∷ [])))
      by true p = Case.kept p
      by false p = Case.more (or_first (is_im b x) _ p) (or_second (is_im b x) _ p)

  -- what was there stays
  adding-keeps : {ds : List ℕ} → Case ds → (e : ℕ) → among e cs ≡ true → among e ds ≡ true
  adding-keeps (Case.kept p) e h = h
  adding-keeps (Case.more p q) e h = among-snoc e cs x ∙ ap (λ z. z || eqb x e) h

  -- it is there, unless it is an intermediate
  adding-has : {ds : List ℕ} → Case ds → is_im b x ≡ false → among x ds ≡ true
  adding-has (Case.kept p) n = sym (ap (λ z. z || among x cs) n) ∙ p
  adding-has (Case.more p q) n = among-snoc x cs x ∙ ap (λ z. among x cs || z) (eq-eqb x x refl) ∙ or_true (among x cs)

  -- nothing else is there
  adding-names : {ds : List ℕ} → Case ds → (e : ℕ) → among e ds ≡ true → (among e cs ≡ true) ⊎ (x ≡ e)
  adding-names (Case.kept p) e h = inl h
  adding-names (Case.more p q) e h = ⊎_elim inl (λ t. inr (eqb-true x e t)) (or_one (among e cs) (eqb x e) (sym (among-snoc e cs x) ∙ h))

  adding-no-im : {ds : List ℕ} → Case ds → NoIm b cs → NoIm b ds
  adding-no-im (Case.kept p) n e h = n e h
  adding-no-im (Case.more p q) n e h = ⊎_elim (n e) (λ t. subst (λ y. is_im b y ≡ false) t p) (adding-names (Case.more p q) e h)

  adding-apart : {ds : List ℕ} → Case ds → Apart cs → Apart ds
  adding-apart (Case.kept p) a = a
  adding-apart (Case.more p q) a = apart_snoc cs x q a

-- ── pairs, one after the other ───────────────────────────────────────────────
module _ (b : List ℕ) (g h : ℕ → ℕ) (list : ℕ → List ℕ) (step : (i : ℕ) → list (suc i) ≡ adding b (h i) (adding b (g i) (list i))) where
  -- the first of a pair, then the second
  half : (i : ℕ) → Case b (g i) (list i) (adding b (g i) (list i))
  half i = adding-case b (g i) (list i)

  whole : (i : ℕ) → Case b (h i) (adding b (g i) (list i)) (list (suc i))
  whole i = subst (λ l. Case b (h i) (adding b (g i) (list i)) l) (sym (step i)) (adding-case b (h i) (adding b (g i) (list i)))

  pairs_apart : (n : ℕ) → Apart (list 0) → Apart (list n)
  pairs_apart zero a = a
  pairs_apart (suc n) a = adding-apart b (h n) _ (whole n) (adding-apart b (g n) _ (half n) (pairs_apart n a))

  pairs_no-im : (n : ℕ) → NoIm b (list 0) → NoIm b (list n)
  pairs_no-im zero a = a
  pairs_no-im (suc n) a = adding-no-im b (h n) _ (whole n) (adding-no-im b (g n) _ (half n) (pairs_no-im n a))

  pair_keeps : (n e : ℕ) → among e (list n) ≡ true → among e (list (suc n)) ≡ true
  pair_keeps n e m = adding-keeps b (h n) _ (whole n) e (adding-keeps b (g n) _ (half n) e m)

  pairs_keep : (n e : ℕ) → among e (list 0) ≡ true → among e (list n) ≡ true
  pairs_keep zero e m = m
  pairs_keep (suc n) e m = pair_keeps n e (pairs_keep n e m)

  pair-has : (n e : ℕ) → is_im b e ≡ false → (g n ≡ e) ⊎ (h n ≡ e) → among e (list (suc n)) ≡ true
  pair-has n e p (inl q) =
      let has : among e (adding b (g n) (list n)) ≡ true = subst (λ y. is_im b y ≡ false → among y (adding b (g n) (list n)) ≡ true) q (adding-has b (g n) (list n) (half n)) p in
      adding-keeps b (h n) _ (whole n) e has
  pair-has n e p (inr q) = subst (λ y. is_im b y ≡ false → among y (list (suc n)) ≡ true) q (adding-has b (h n) _ (whole n)) p

  pairs_have : (n e : ℕ) → is_im b e ≡ false → OfPairs g h n e → among e (list n) ≡ true
  pairs_have zero e p s = absurd (not-suc-le-zero s.1)
  pairs_have (suc n) e p s = go (pairs_have n e p) (eq-or-lt_of_le (le_of_suc-le-suc s.1))
    where
      go : (OfPairs g h n e → among e (list n) ≡ true) → (s.0 ≡ n) ⊎ (s.0 < n) → among e (list (suc n)) ≡ true
      go ih (inl q) = pair-has n e p (subst (λ j. (g j ≡ e) ⊎ (h j ≡ e)) q s.2)
      go ih (inr l) = pair_keeps n e (ih (s.0, l, s.2))

  pairs_name : (n e : ℕ) → among e (list n) ≡ true → (among e (list 0) ≡ true) ⊎ OfPairs g h n e
  pairs_name zero e m = inl m
  pairs_name (suc n) e m = go (pairs_name n e) (adding-names b (h n) _ (whole n) e m)
    where
      later : OfPairs g h n e → OfPairs g h (suc n) e
      later s = (s.0, let l : s.0 < n = s.1 in omega arith, s.2)

      first : (among e (list n) ≡ true → (among e (list 0) ≡ true) ⊎ OfPairs g h n e) → (among e (list n) ≡ true) ⊎ (g n ≡ e) → (among e (list 0) ≡ true) ⊎ OfPairs g h (suc n) e
      first ih (inl t) = ⊎_elim inl (λ s. inr (later s)) (ih t)
      first ih (inr q) = inr (n, omega arith, inl q)

      go : (among e (list n) ≡ true → (among e (list 0) ≡ true) ⊎ OfPairs g h n e) → (among e (adding b (g n) (list n)) ≡ true) ⊎ (h n ≡ e) → (among e (list 0) ≡ true) ⊎ OfPairs g h (suc n) e
      go ih (inl t) = first ih (adding-names b (g n) (list n) (half n) e t)
      go ih (inr q) = inr (n, omega arith, inr q)

-- ── the columns ──────────────────────────────────────────────────────────────
module _ (b : List ℕ) where
  lookups-step : (i : ℕ) → lookups b (suc i) ≡ adding b (t_of b i) (adding b (f_of b i) (lookups b i))
  unfolding lookups
  lookups-step i = refl

  lookups-none : lookups b 0 ≡ []
  unfolding lookups
  lookups-none = refl

  products-step : (i : ℕ) → products b (suc i) ≡ adding b (den_of b i) (adding b (num_of b i) (products b i))
  unfolding products
  products-step i = refl

  products-none : products b 0 ≡ lookups b (pu_count b)
  unfolding products
  products-none = refl

  -- NO EXPRESSION HAS TWO COLUMNS
  pub columns-apart : Apart (columns b)
  columns-apart =
      pairs_apart b (num_of b) (den_of b) (products b) products-step (product_count b)
      (subst Apart (sym products-none) (pairs_apart b (f_of b) (t_of b) (lookups b) lookups-step (pu_count b) (subst Apart (sym lookups-none) apart_none)))

  none-among : (e : ℕ) → among e [] ≡ true → ⊥
  unfolding among
  none-among e h = false≢true h

  columns-no-im : NoIm b (columns b)
  columns-no-im =
      pairs_no-im b (num_of b) (den_of b) (products b) products-step (product_count b)
      (subst (NoIm b) (sym products-none)
      (pairs_no-im b (f_of b) (t_of b) (lookups b) lookups-step (pu_count b) (subst (NoIm b) (sym lookups-none) (λ e h. absurd (none-among e h)))))

  lookups_name : (e : ℕ) → among e (lookups b (pu_count b)) ≡ true → OfPairs (f_of b) (t_of b) (pu_count b) e
  lookups_name e h = ⊎_elim (λ t. absurd (none-among e (subst (λ l. among e l ≡ true) lookups-none t))) (λ s. s) (pairs_name b (f_of b) (t_of b) (lookups b) lookups-step (pu_count b) e h)

  columns_name : (e : ℕ) → among e (columns b) ≡ true → Named b e
  columns_name e h =
      ⊎_elim (λ t. inl (lookups_name e (subst (λ l. among e l ≡ true) products-none t))) inr (pairs_name b (num_of b) (den_of b) (products b) products-step (product_count b) e h)

  columns_have : (e : ℕ) → is_im b e ≡ false → Named b e → among e (columns b) ≡ true
  columns_have e n (inl s) =
      let there : among e (lookups b (pu_count b)) ≡ true = pairs_have b (f_of b) (t_of b) (lookups b) lookups-step (pu_count b) e n s in
      pairs_keep b (num_of b) (den_of b) (products b) products-step (product_count b) e (subst (λ l. among e l ≡ true) (sym products-none) there)
  columns_have e n (inr s) = pairs_have b (num_of b) (den_of b) (products b) products-step (product_count b) e n s

  -- AN EXPRESSION HAS A COLUMN EXACTLY WHEN the plan names it and it is no intermediate
  pub exactly-column : (e : ℕ) → (among e (columns b) ≡ true) ↔ (Named b e × (is_im b e ≡ false))
  exactly-column e = (λ h. (columns_name e h, columns-no-im e h), λ s. columns_have e s.1 s.0)

  -- column k is that of such an expression
  pub column-of : (k : ℕ) → k < length (columns b) → Named b (get_or (columns b) k 0) × (is_im b (get_or (columns b) k 0) ≡ false)
  column-of k h = (exactly-column (get_or (columns b) k 0)).0 (among-at (columns b) k h)

  -- ── the intermediates ──────────────────────────────────────────────────────
  pub exactly-im : (e : ℕ) → (is_im b e ≡ true) ↔ Im b e
  unfolding is_im
  exactly-im e = (to, λ s. some-any (λ i. eqb (im_of b i) e) (im_count b) s.0 s.1 (eq-eqb (im_of b s.0) e s.2))
    where
      to : any (λ i. eqb (im_of b i) e) (im_count b) ≡ true → Im b e
      to h = let s = any_some (λ i. eqb (im_of b i) e) (im_count b) h in (s.0, s.1, eqb-true (im_of b s.0) e s.2)
