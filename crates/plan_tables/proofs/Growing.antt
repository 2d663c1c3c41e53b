-- One expression more among those with a temporary column, or none. Assumes nothing.
use Prim.Native.Nat.{ℕ, ◌+◌, ◌*◌, ◌<◌, ◌≤◌}
use mathlib.Core.Path.{◌≡◌, refl, sym, ◌∙◌, ap, subst}
use mathlib.Core.Bool.{Bool, true, false, cond}
use mathlib.Core.List.{List, [], ◌∷◌, ◌++◌}
use native.Mathlib.Omega.{arith}
use native.Mathlib.Numerals.{add-one}
use lib.ListN.{get_or, set, replicate}
use lib.Dec.{eqb}
use borrow.Author.Tests.{eq-eqb}
use Rattle.frames.specs.Order.{expression_limit}
use Rattle.plans.specs.Plan.{Is, number_limit, pu_count, product_count, f_of, t_of, num_of, den_of}
use Rattle.plans.specs.Columns.{record_limit, adding, lookups, products}
use Rattle.plans.specs.Counting.{Tells, MarkAsks, Asked, Counted, known, added}
use Rattle.plans.specs.Counts.{none_told, counted-one, no-lookups}
use Rattle.plan_tables.specs.Listed.{Listed, listed-none, listed-snoc}
use Rattle.plan_tables.specs.Gathered.{ColumnPut, Gathered, Fitting, AfterLookups, columns_of}

-- ---- one asked

adds : (seen : List ℕ) (e : ℕ) (c : Bool) → eqb (get_or seen e 0) 1 ≡ c → added seen e ≡ cond c 0 1
unfolding added
adds seen e c p = ap (λ z. cond z 0 1) p

module _ {seen seen' columns : List ℕ} {n e r : ℕ} (a : Asked seen e r seen') where
  pub put-none : r ≡ 0 → ColumnPut seen seen' columns columns n e n
  put-none z = go (eqb (get_or seen e 0) 1) refl
    where
      go : (c : Bool) → eqb (get_or seen e 0) 1 ≡ c → ColumnPut seen seen' columns columns n e n
      go true p =
          record {
            asked = record { adds = refl; marks = a.marks };
            count = omega (arith, adds seen e true p);
            held = sym (ap (λ z. cond z columns (set columns n e)) p);
          }
      go false p = absurd (omega (arith, z, a.adds, adds seen e false p))

  pub put_one : (r ≡ 0 → ⊥) → ColumnPut seen seen' columns (set columns n e) n e (n + 1)
  put_one z = go (eqb (get_or seen e 0) 1) refl
    where
      go : (c : Bool) → eqb (get_or seen e 0) 1 ≡ c → ColumnPut seen seen' columns (set columns n e) n e (n + 1)
      go true p = absurd (z (a.adds ∙ adds seen e true p))
      go false p =
          record {
            asked = record { adds = refl; marks = a.marks };
            count = omega (arith, adds seen e false p);
            held = sym (ap (λ z. cond z columns (set columns n e)) p);
          }

-- ---- one gathered

adding-is : (b cs : List ℕ) (e : ℕ) (c : Bool) → known b cs e ≡ c → adding b e cs ≡ cond c cs (cs ++ (e ∷ []))
unfolding adding
adding-is b cs e c p = ap (λ z. cond z cs (cs ++ (e ∷ []))) p

module _ {b l seen seen' columns columns' : List ℕ} {limit n e r : ℕ} {cs : List ℕ} (h : Gathered b l limit seen columns n cs) (q : ColumnPut seen seen' columns columns' n e r) where
  grown : e < expression_limit → Gathered b l (limit + 1) seen' columns' r (adding b e cs)
  grown low =
      record {
        counted = subst (λ z. Counted expression_limit b (adding b e cs) z (limit + 1) seen') (sym q.count) (counted-one low h.counted q.asked);
        listed = go (known b cs e) refl;
      }
    where
      at : (c : Bool) → known b cs e ≡ c → get_or seen e 0 ≡ cond c 1 0
      at c p = h.counted.tells.cell e low ∙ ap (λ z. cond z 1 0) p

      test : (c : Bool) → known b cs e ≡ c → eqb (get_or seen e 0) 1 ≡ c
      test true p = eq-eqb (get_or seen e 0) 1 (at true p)
      test false p = ap (λ z. eqb z 1) (at false p)

      is : (c : Bool) → known b cs e ≡ c → columns' ≡ cond c columns (set columns n e)
      is c p = q.held ∙ ap (λ z. cond z columns (set columns n e)) (test c p)

      moved : {t : List ℕ} {k : ℕ} {ds : List ℕ} → Listed l t k ds → columns' ≡ t → r ≡ k → adding b e cs ≡ ds → Listed l columns' r (adding b e cs)
      moved g e₁ e₂ e₃ = rw (e₁, e₂, e₃) g

      go : (c : Bool) → known b cs e ≡ c → Listed l columns' r (adding b e cs)
      go true p = moved h.listed (is true p) (omega (arith, q.count, adds seen e true (test true p))) (adding-is b cs e true p)
      go false p = moved (listed-snoc h.listed e) (is false p) (omega (arith, q.count, adds seen e false (test false p))) (adding-is b cs e false p)

  pub gathered_one : {x : ℕ} → Is e x expression_limit → Gathered b l (limit + 1) seen' columns' r (adding b x cs)
  gathered_one {x} i = subst (λ y. Gathered b l (limit + 1) seen' columns' r (adding b y cs)) i.is (grown i.low)

gathered-at : {b l seen columns : List ℕ} {limit most n : ℕ} {cs ds : List ℕ} → Gathered b l limit seen columns n cs → limit ≤ most → cs ≡ ds → Gathered b l most seen columns n ds
gathered-at {b} {l} {seen} {columns} {limit} {most} {n} h g e =
    subst (λ z. Gathered b l most seen columns n z) e
    (record { counted = record { tells = h.counted.tells; count = h.counted.count; few = omega (arith, h.counted.few, g) }; listed = h.listed })

-- a name is below a smaller limit
lowered : {e x limit : ℕ} → Is e x number_limit → x < limit → Is e x limit
lowered {e} {x} {limit} h l = record { is = h.is; low = subst (λ z. z < limit) (sym h.is) l }

-- ---- the pu, then the grand products

module _ (b : List ℕ) (fit : Fitting b) where
  pub mark-asks : MarkAsks expression_limit b (replicate expression_limit 0)
  mark-asks = record { whole = fit.0; low = λ i h l. fit.2.im i h; blank = none_told expression_limit }

  pub lookups-none : {seen : List ℕ} (l : List ℕ) → Tells expression_limit (known b []) seen → Gathered b l (2 * 0) seen l 0 (lookups b 0)
  unfolding lookups
  lookups-none l t = record { counted = no-lookups b t; listed = listed-none l }

  module _ (i : ℕ) where
    -- room in the table of what is seen
    pub f-room : i < pu_count b → {e : ℕ} → Is e (f_of b i) number_limit → e < expression_limit
    f-room g h = (lowered h (fit.2.f i g)).low

    pub t-room : i < pu_count b → {e : ℕ} → Is e (t_of b i) number_limit → e < expression_limit
    t-room g h = (lowered h (fit.2.t i g)).low

    pub num-room : i < product_count b → {e : ℕ} → Is e (num_of b i) number_limit → e < expression_limit
    num-room g h = (lowered h (fit.2.num i g)).low

    pub den-room : i < product_count b → {e : ℕ} → Is e (den_of b i) number_limit → e < expression_limit
    den-room g h = (lowered h (fit.2.den i g)).low

  module _ {l seen columns : List ℕ} {n : ℕ} (i : ℕ) where
    pub lookups-room : i < pu_count b → Gathered b l (2 * i) seen columns n (lookups b i) → n + 1 < record_limit
    lookups-room g h = omega (arith, h.counted.few, fit.1)

    pub products-room : i < product_count b → Gathered b l (2 * pu_count b + 2 * i) seen columns n (products b i) → n + 1 < record_limit
    products-room g h = omega (arith, h.counted.few, fit.1)

    module _ {seen₁ seen₂ columns₁ columns₂ : List ℕ} {n₁ n₂ e f : ℕ} where
      pub lookups-next :
          i < pu_count b → Gathered b l (2 * i) seen columns n (lookups b i) → Is e (f_of b i) number_limit → ColumnPut seen seen₁ columns columns₁ n e n₁ → Is f (t_of b i) number_limit → ColumnPut seen₁ seen₂ columns₁ columns₂ n₁ f n₂ →
          Gathered b l (2 * (i + 1)) seen₂ columns₂ n₂ (lookups b (i + 1))
      unfolding lookups
      lookups-next g h p a q c = gathered-at (gathered_one (gathered_one h a (lowered p (fit.2.f i g))) c (lowered q (fit.2.t i g))) (omega arith) (ap (lookups b) (sym (add-one i)))

      pub products-next :
          i < product_count b → Gathered b l (2 * pu_count b + 2 * i) seen columns n (products b i) → Is e (num_of b i) number_limit → ColumnPut seen seen₁ columns columns₁ n e n₁ → Is f (den_of b i) number_limit → ColumnPut seen₁ seen₂ columns₁ columns₂ n₁ f n₂ →
          Gathered b l (2 * pu_count b + 2 * (i + 1)) seen₂ columns₂ n₂ (products b (i + 1))
      unfolding products
      products-next g h p a q c = gathered-at (gathered_one (gathered_one h a (lowered p (fit.2.num i g))) c (lowered q (fit.2.den i g))) (omega arith) (ap (products b) (sym (add-one i)))

    pub lookups-all : i ≤ pu_count b → pu_count b ≤ i → Gathered b l (2 * i) seen columns n (lookups b i) → AfterLookups b l seen columns n
    lookups-all g k h = let e : i ≡ pu_count b = omega arith in gathered-at h (omega arith) (ap (lookups b) e)

    pub products-all : i ≤ product_count b → product_count b ≤ i → Gathered b l (2 * pu_count b + 2 * i) seen columns n (products b i) → Listed l columns n (columns_of b)
    products-all g k h = let e : i ≡ product_count b = omega arith in subst (λ z. Listed l columns n (products b z)) e h.listed

  pub products-none : {l seen columns : List ℕ} {n : ℕ} → AfterLookups b l seen columns n → Gathered b l (2 * pu_count b + 2 * 0) seen columns n (products b 0)
  unfolding products
  products-none h = gathered-at h (omega arith) refl
