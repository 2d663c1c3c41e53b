-- HOW LONG THE TABLES OF A PLAN ARE: every cm number has a record in each domain and a tree, and every temporary column a record. Assumes nothing.
use Prim.Native.Nat.{ℕ, zero, suc, ◌+◌, ◌*◌, ◌≤◌}
use Rattle.std.specs.Prelude.{◌≡◌, Bool, ◌||◌, List, [], ◌∷◌, ◌++◌, length}
use Rattle.std.proofs.Math.Path.{refl, ap}
use Rattle.std.proofs.Common.{sym, ◌∙◌, length-append}
use Rattle.std.proofs.Math.Bool.{true, false, cond}
use native.Mathlib.Omega.{arith}
use Rattle.kinds.specs.Range.{within, within_in, within-below, within-above}
use Rattle.pool.specs.Pool.{Pool}
use Rattle.plans.specs.Plan.{cm1, cm2, cm3, q_deg, pu_count, im_count, product_count, f_of, t_of, num_of, den_of, im_of}
use Rattle.plans.specs.Columns.{among, is_im, record_limit, record_count}
use Rattle.plans.specs.Agreement.{cm_count, counts_agree}
use Rattle.plans.specs.Passed.{counts-agree}
use Rattle.map_records.specs.Mapping.{Mapping, pol, pair, grown, column, cm1s, h_at, z_at, lookup, lookup_dim, lookups, products, dim_in, intermediates, quotient_dim, quotients, mapped}
use Rattle.map_records.specs.Sizes.{snoc-size, quotients-columns, mapped-size}
use Rattle.map_records.specs.Tables.{Holds, Planned}
use Rattle.plan_tables.specs.Tables.{numbers_in, cm_n, cm2ns, column_records, trees_of, positions, trees}
use Rattle.plan_tables.specs.Gathered.{columns_of}
use Rattle.plan_tables.specs.Sectioned.{numbers-snoc}

-- ---- as many trees as records

pub trees-of-size : (ss ds ps rs : List ℕ) → length (trees_of ss ds ps rs) ≡ length rs
trees-of-size ss ds ps [] = refl
trees-of-size ss ds ps (r ∷ rs) = ap suc (trees-of-size ss ds ps rs)

-- ---- records in sections a to c

module _ (a c : ℕ) where
  -- how many there are
  abbrev many : Mapping → ℕ
  many m = length (numbers_in a c 0 m.sections)

  one_more : (ss : List ℕ) (s : ℕ) → length (numbers_in a c 0 (ss ++ (s ∷ []))) ≡ length (numbers_in a c 0 ss) + cond (within a c s) 1 0
  one_more ss s =
      ap length (numbers-snoc a c 0 ss s (length ss) (omega arith))
      ∙ length-append (numbers_in a c 0 ss) (cond (within a c s) (length ss ∷ []) [])
      ∙ ap (λ z. length (numbers_in a c 0 ss) + z) (by (within a c s))
    where
      by : (t : Bool) → length (cond t (length ss ∷ []) []) ≡ cond t 1 0
      by true = refl
      by false = refl

  pair-many : (s k d : ℕ) (m : Mapping) → many (pair s k d m) ≡ many m + cond (within a c s) 1 0 + cond (within a c (s + 5)) 1 0
  pair-many s k d m = one_more (m.sections ++ (s ∷ [])) (s + 5) ∙ ap (λ z. z + cond (within a c (s + 5)) 1 0) (one_more m.sections s)

  -- a column's record is not among them
  column-none : within a c 4 ≡ false → (b : List ℕ) (e d : ℕ) (m : Mapping) → many (column b e d m) ≡ many m
  unfolding column
  column-none w b e d m = go (is_im b e || among e m.columns)
    where
      go : (t : Bool) → many (cond t m (grown b e (pol 4 d m))) ≡ many m
      go true = refl
      go false = omega (arith, one_more m.sections 4, ap {B = ℕ} (λ z. cond z 1 0) w)

-- ---- cm_n and cm_2ns

-- of the two records of a cm one is among them, and no other record
pub record OfPair (a c : ℕ) : Type 0 where
  pub one : (s : ℕ) → s ≤ 3 → cond (within a c s) 1 0 + cond (within a c (s + 5)) 1 0 ≡ 1
  pub column : within a c 4 ≡ false
  pub q : within a c 9 ≡ false
  pub f : within a c 10 ≡ false

module _ (a c : ℕ) (o : OfPair a c) (b : List ℕ) (p : Pool) where
  pair_one : (s k d : ℕ) (m : Mapping) → s ≤ 3 → many a c (pair s k d m) ≡ suc (many a c m)
  pair_one s k d m h = omega (arith, pair-many a c s k d m, o.one s h)

  cm1s_many : (i : ℕ) → many a c (cm1s b p i) ≡ i
  unfolding cm1s
  cm1s_many zero = refl
  cm1s_many (suc i) = pair_one 0 i 1 (cm1s b p i) (omega arith) ∙ ap suc (cm1s_many i)

  lookup_many : (i d : ℕ) (m : Mapping) → many a c (lookup b p i d m) ≡ suc (suc (many a c m))
  lookup_many i d m =
      let m1 : Mapping = pair 1 (h_at b p i) d m in
      let m2 : Mapping = pair 1 (h_at b p i + 1) d m1 in
      column-none a c o.column b (t_of b i) d (column b (f_of b i) d m2) ∙ column-none a c o.column b (f_of b i) d m2 ∙ pair_one 1 (h_at b p i + 1) d m1 (omega arith) ∙ ap suc (pair_one 1 (h_at b p i) d m (omega arith))

  lookups_many : (i : ℕ) → many a c (lookups b p i) ≡ cm1 b + 2 * i
  unfolding lookups
  lookups_many zero = cm1s_many (cm1 b) ∙ omega arith
  lookups_many (suc i) = let e : many a c (lookup b p i (lookup_dim b p i (lookups b p i)) (lookups b p i)) ≡ suc (suc (many a c (lookups b p i))) = lookup_many i (lookup_dim b p i (lookups b p i)) (lookups b p i) in let h : many a c (lookups b p i) ≡ cm1 b + 2 * i = lookups_many i in e ∙ omega arith

  products_many : (i : ℕ) → many a c (products b p i) ≡ cm1 b + 2 * pu_count b + i
  unfolding products
  products_many zero = lookups_many (pu_count b) ∙ omega arith
  products_many (suc i) =
      let m1 : Mapping = pair 2 (z_at b p i) 3 (products b p i) in
      let h : many a c (products b p i) ≡ cm1 b + 2 * pu_count b + i = products_many i in
      column-none a c o.column b (den_of b i) 3 (column b (num_of b i) 3 m1) ∙ column-none a c o.column b (num_of b i) 3 m1 ∙ pair_one 2 (z_at b p i) 3 (products b p i) (omega arith) ∙ omega arith

  intermediates_many : (i : ℕ) → many a c (intermediates b p i) ≡ cm1 b + 2 * pu_count b + product_count b + i
  unfolding intermediates
  intermediates_many zero = products_many (product_count b) ∙ omega arith
  intermediates_many (suc i) =
      let h : many a c (intermediates b p i) ≡ cm1 b + 2 * pu_count b + product_count b + i = intermediates_many i in
      pair_one 2 (z_at b p i) (dim_in b p (intermediates b p i) (im_of b i)) (intermediates b p i) (omega arith) ∙ omega arith

  quotients_many : (i : ℕ) → many a c (quotients b p i) ≡ cm1 b + 2 * pu_count b + product_count b + im_count b + i
  unfolding quotients
  quotients_many zero = intermediates_many (im_count b) ∙ omega arith
  quotients_many (suc i) =
      let h : many a c (quotients b p i) ≡ cm1 b + 2 * pu_count b + product_count b + im_count b + i = quotients_many i in
      pair_one 3 (cm1 b + cm2 b + cm3 b + i) (quotient_dim b p) (quotients b p i) (omega arith) ∙ omega arith

  mapped_many : many a c (mapped b p) ≡ cm1 b + 2 * pu_count b + product_count b + im_count b + q_deg b
  unfolding mapped
  mapped_many =
      one_more a c ((quotients b p (q_deg b)).sections ++ (9 ∷ [])) 10
      ∙ omega (arith, one_more a c (quotients b p (q_deg b)).sections 9, ap {B = ℕ} (λ z. cond z 1 0) o.q, ap {B = ℕ} (λ z. cond z 1 0) o.f, quotients_many (q_deg b))

of_n : OfPair 0 3
unfolding within
of_n =
    record {
      one = λ s h. rw (within_in 0 3 s (omega (arith, h)), within-above 0 3 (s + 5) (omega arith));
      column = refl;
      q = refl;
      f = refl;
    }

of2ns : OfPair 5 8
unfolding within
of2ns =
    record {
      one = λ s h. rw (within-below 5 8 s (omega (arith, h)), within_in 5 8 (s + 5) (omega (arith, h)));
      column = refl;
      q = refl;
      f = refl;
    }

module _ (b : List ℕ) (p : Pool) (agree : counts_agree b ≡ true) where
  -- A RECORD FOR EACH CM NUMBER
  pub cm-n-size : length (cm_n (mapped b p)) ≡ cm_count b
  cm-n-size = let k = counts-agree b agree in mapped_many 0 3 of_n b p ∙ omega (arith, k.second, k.third, k.fourth)

  pub cm_2ns_size : length (cm2ns (mapped b p)) ≡ cm_count b
  cm_2ns_size = let k = counts-agree b agree in mapped_many 5 8 of2ns b p ∙ omega (arith, k.second, k.third, k.fourth)

  -- AND A TREE
  pub trees-size : length (trees (mapped b p)) ≡ cm_count b
  trees-size = trees-of-size (mapped b p).sections (mapped b p).dims (positions (mapped b p)) (cm2ns (mapped b p)) ∙ cm_2ns_size

-- ---- records that stand in tables

-- there are no more than the limit
pub held-few : (b : List ℕ) (p : Pool) → Planned b → {ss ds cs : List ℕ} {n : ℕ} → Holds ss ds cs n (mapped b p) → n ≤ record_limit
held-few b p h {n = n} k =
    let size : n ≡ record_count b = sym k.count ∙ mapped-size b p in
    omega (arith, size, h.fits)

-- ---- temporary columns

-- each has a record
abbrev Matched : Mapping → Type 0
Matched m = many 4 4 m ≡ length m.columns

pair_matched : (s k d : ℕ) (m : Mapping) → s ≤ 3 → Matched m → Matched (pair s k d m)
pair_matched s k d m h e =
    omega (arith, pair-many 4 4 s k d m, e, ap {B = ℕ} (λ z. cond z 1 0) (within-below 4 4 s (omega arith)), ap {B = ℕ} (λ z. cond z 1 0) (within-above 4 4 (s + 5) (omega arith)))

module _ (b : List ℕ) where
  column_matched : (e d : ℕ) (m : Mapping) → Matched m → Matched (column b e d m)
  unfolding column
  column_matched e d m h = go (is_im b e || among e m.columns)
    where
      go : (t : Bool) → Matched (cond t m (grown b e (pol 4 d m)))
      go true = h
      go false = omega (arith, one_more 4 4 m.sections 4, h, snoc-size m.columns e, ap {B = ℕ} (λ z. cond z 1 0) (within_in 4 4 4 (omega arith)))

  module _ (p : Pool) where
    cm1s_matched : (i : ℕ) → Matched (cm1s b p i)
    unfolding cm1s
    cm1s_matched zero = refl
    cm1s_matched (suc i) = pair_matched 0 i 1 (cm1s b p i) (omega arith) (cm1s_matched i)

    lookup_matched : (i d : ℕ) (m : Mapping) → Matched m → Matched (lookup b p i d m)
    lookup_matched i d m h =
        let m1 : Mapping = pair 1 (h_at b p i) d m in
        let m2 : Mapping = pair 1 (h_at b p i + 1) d m1 in
        column_matched (t_of b i) d (column b (f_of b i) d m2)
        (column_matched (f_of b i) d m2 (pair_matched 1 (h_at b p i + 1) d m1 (omega arith) (pair_matched 1 (h_at b p i) d m (omega arith) h)))

    lookups_matched : (i : ℕ) → Matched (lookups b p i)
    unfolding lookups
    lookups_matched zero = cm1s_matched (cm1 b)
    lookups_matched (suc i) = lookup_matched i (lookup_dim b p i (lookups b p i)) (lookups b p i) (lookups_matched i)

    products_matched : (i : ℕ) → Matched (products b p i)
    unfolding products
    products_matched zero = lookups_matched (pu_count b)
    products_matched (suc i) =
        let m1 : Mapping = pair 2 (z_at b p i) 3 (products b p i) in
        column_matched (den_of b i) 3 (column b (num_of b i) 3 m1) (column_matched (num_of b i) 3 m1 (pair_matched 2 (z_at b p i) 3 (products b p i) (omega arith) (products_matched i)))

    intermediates_matched : (i : ℕ) → Matched (intermediates b p i)
    unfolding intermediates
    intermediates_matched zero = products_matched (product_count b)
    intermediates_matched (suc i) = pair_matched 2 (z_at b p i) (dim_in b p (intermediates b p i) (im_of b i)) (intermediates b p i) (omega arith) (intermediates_matched i)

    quotients_matched : (i : ℕ) → Matched (quotients b p i)
    unfolding quotients
    quotients_matched zero = intermediates_matched (im_count b)
    quotients_matched (suc i) = pair_matched 3 (cm1 b + cm2 b + cm3 b + i) (quotient_dim b p) (quotients b p i) (omega arith) (quotients_matched i)

    -- THE COLUMNS OF THE MAPPING ARE THE PLAN'S
    pub mapped-columns : (mapped b p).columns ≡ columns_of b
    unfolding mapped
    mapped-columns = quotients-columns b p (q_deg b)

    mapped_matched : Matched (mapped b p)
    unfolding mapped within
    mapped_matched = one_more 4 4 ((quotients b p (q_deg b)).sections ++ (9 ∷ [])) 10 ∙ omega (arith, one_more 4 4 (quotients b p (q_deg b)).sections 9, quotients_matched (q_deg b))

    -- A RECORD FOR EACH OF THEM
    pub column-records-size : length (column_records (mapped b p)) ≡ length (columns_of b)
    column-records-size = mapped_matched ∙ ap length mapped-columns
