-- How many records there are after each part of a plan, and that no part passes the count of the whole.
-- Assumes nothing.
use Prim.Native.Nat.{ℕ, zero, suc, ◌+◌, ◌*◌, ◌≤◌}
use Rattle.std.specs.Prelude.{◌≡◌, Bool, ◌||◌}
use Rattle.std.proofs.Math.Path.{refl, ap}
use Rattle.std.proofs.Common.{◌∙◌, length-append}
use Rattle.std.proofs.Math.Bool.{true, false, cond}
use mathlib.Core.List.{List, [], ◌∷◌, ◌++◌}
use native.Mathlib.Omega.{arith}
use Rattle.std.proofs.Math.Decide.{le_ind}
use Rattle.std.proofs.Math.ListN.{length}
use Rattle.pool.specs.Pool.{Pool}
use Rattle.plans.specs.Plan.{cm1, cm2, cm3, q_deg, pu_count, im_count, product_count, f_of, t_of, num_of, den_of, im_of}
use Rattle.plans.specs.Columns as plan
use Rattle.plans.specs.Columns.{among, is_im, adding, record_limit, pair_records, record_count}
use Rattle.map_records.specs.Mapping.{Mapping, pol, pair, column, cm1s, lookup_dim, lookup, lookups, z_at, dim_in, products, intermediates, quotient_dim, quotients, mapped}

-- as many sections as dimensions
abbrev pub Even : Mapping → Type 0
Even m = length m.sections ≡ length m.dims

abbrev pub size : Mapping → ℕ
size m = length m.sections

pub snoc-size : (l : List ℕ) (a : ℕ) → length (l ++ (a ∷ [])) ≡ suc (length l)
snoc-size l a = length-append l (a ∷ []) ∙ omega arith

pub pol-size : (s d : ℕ) (m : Mapping) → size (pol s d m) ≡ suc (size m)
pol-size s d m = snoc-size m.sections s

pub pair_size : (s k d : ℕ) (m : Mapping) → size (pair s k d m) ≡ suc (suc (size m))
pair_size s k d m = pol-size (s + 5) d (pol s d m) ∙ ap suc (pol-size s d m)

module _ (b : List ℕ) where
  -- ---- a column

  -- the columns after it are the plan's
  pub column-columns : (e d : ℕ) (m : Mapping) → (column b e d m).columns ≡ adding b e m.columns
  unfolding column adding
  column-columns e d m = go (is_im b e || among e m.columns)
    where
      go : (c : Bool) → (cond c m (record { sections = m.sections ++ (4 ∷ []); dims = m.dims ++ (d ∷ []); columns = m.columns ++ (e ∷ []); cm_dims = m.cm_dims })).columns ≡ cond c m.columns (m.columns ++ (e ∷ []))
      go true = refl
      go false = refl

  -- a record more for a column more
  pub column-size : (e d : ℕ) (m : Mapping) → size (column b e d m) + length m.columns ≡ size m + length (adding b e m.columns)
  unfolding column adding
  column-size e d m = go (is_im b e || among e m.columns)
    where
      go :
          (c : Bool) →
          size (cond c m (record { sections = m.sections ++ (4 ∷ []); dims = m.dims ++ (d ∷ []); columns = m.columns ++ (e ∷ []); cm_dims = m.cm_dims })) + length m.columns
          ≡ size m + length (cond c m.columns (m.columns ++ (e ∷ [])))
      go true = refl
      go false = omega (arith, snoc-size m.sections 4, snoc-size m.columns e)

  pub adding-grows : (e : ℕ) (cs : List ℕ) → length cs ≤ length (adding b e cs)
  unfolding adding
  adding-grows e cs = go (is_im b e || among e cs)
    where
      go : (c : Bool) → length cs ≤ length (cond c cs (cs ++ (e ∷ [])))
      go true = omega arith
      go false = omega (arith, snoc-size cs e)

  -- ---- the plan's columns, part by part, are no more than all

  lookups_less : (i n : ℕ) → i ≤ n → length (plan.lookups b i) ≤ length (plan.lookups b n)
  unfolding plan.lookups
  lookups_less i n h =
      le_ind (λ n. length (plan.lookups b i) ≤ length (plan.lookups b n))
      (omega arith)
      (λ n g q. let k = adding-grows (f_of b n) (plan.lookups b n) in let l = adding-grows (t_of b n) (adding b (f_of b n) (plan.lookups b n)) in omega arith)
      n h

  products_less : (i n : ℕ) → i ≤ n → length (plan.products b i) ≤ length (plan.products b n)
  unfolding plan.products
  products_less i n h =
      le_ind (λ n. length (plan.products b i) ≤ length (plan.products b n))
      (omega arith)
      (λ n g q. let k = adding-grows (num_of b n) (plan.products b n) in let l = adding-grows (den_of b n) (adding b (num_of b n) (plan.products b n)) in omega arith)
      n h

  lookups-all : (i : ℕ) → i ≤ pu_count b → length (plan.lookups b i) ≤ length (plan.products b (product_count b))
  unfolding plan.products
  lookups-all i h = let k = lookups_less i (pu_count b) h in let l = products_less 0 (product_count b) (omega arith) in omega arith

  -- ---- the parts

  module _ (p : Pool) where
    pub cm1s-size : (i : ℕ) → size (cm1s b p i) ≡ 2 * i
    unfolding cm1s
    cm1s-size zero = refl
    cm1s-size (suc i) = pair_size 0 i 1 (cm1s b p i) ∙ rw (cm1s-size i) (omega arith)

    pub cm1s-columns : (i : ℕ) → (cm1s b p i).columns ≡ []
    unfolding cm1s
    cm1s-columns zero = refl
    cm1s-columns (suc i) = cm1s-columns i

    -- one pu
    pub lookup-columns : (i d : ℕ) (m : Mapping) → (lookup b p i d m).columns ≡ adding b (t_of b i) (adding b (f_of b i) m.columns)
    lookup-columns i d m =
        column-columns (t_of b i) d (column b (f_of b i) d (pair 1 (cm1 b + 2 * i + 1) d (pair 1 (cm1 b + 2 * i) d m)))
        ∙ ap (adding b (t_of b i)) (column-columns (f_of b i) d (pair 1 (cm1 b + 2 * i + 1) d (pair 1 (cm1 b + 2 * i) d m)))

    lookup-size : (i d : ℕ) (m : Mapping) → size (lookup b p i d m) + length m.columns ≡ size m + 4 + length (lookup b p i d m).columns
    lookup-size i d m =
        let m1 = pair 1 (cm1 b + 2 * i) d m in
        let m2 = pair 1 (cm1 b + 2 * i + 1) d m1 in
        let m3 = column b (f_of b i) d m2 in
        let a1 : size m1 ≡ suc (suc (size m)) = pair_size 1 (cm1 b + 2 * i) d m in
        let a2 : size m2 ≡ suc (suc (size m1)) = pair_size 1 (cm1 b + 2 * i + 1) d m1 in
        let a3 : size m3 + length m.columns ≡ size m2 + length (adding b (f_of b i) m.columns) = column-size (f_of b i) d m2 in
        let c3 : length m3.columns ≡ length (adding b (f_of b i) m.columns) = ap length (column-columns (f_of b i) d m2) in
        let a4 : size (lookup b p i d m) + length m3.columns ≡ size m3 + length (adding b (t_of b i) m3.columns) = column-size (t_of b i) d m3 in
        let c4 : length (lookup b p i d m).columns ≡ length (adding b (t_of b i) m3.columns) = ap length (column-columns (t_of b i) d m3) in
        omega arith

    pub lookups-columns : (i : ℕ) → (lookups b p i).columns ≡ plan.lookups b i
    unfolding lookups plan.lookups
    lookups-columns zero = cm1s-columns (cm1 b)
    lookups-columns (suc i) =
        lookup-columns i (lookup_dim b p i (lookups b p i)) (lookups b p i) ∙ ap (λ (cs : List ℕ). adding b (t_of b i) (adding b (f_of b i) cs)) (lookups-columns i)

    lookups-size : (i : ℕ) → size (lookups b p i) ≡ 2 * cm1 b + 4 * i + length (lookups b p i).columns
    unfolding lookups
    lookups-size zero = cm1s-size (cm1 b) ∙ rw (cm1s-columns (cm1 b)) (omega arith)
    lookups-size (suc i) = let k = lookup-size i (lookup_dim b p i (lookups b p i)) (lookups b p i) in let l = lookups-size i in omega arith

    -- one grand product
    product-size :
        (i : ℕ) (m : Mapping) →
        size (column b (den_of b i) 3 (column b (num_of b i) 3 (pair 2 (z_at b p i) 3 m))) + length m.columns
        ≡ size m + 2 + length (column b (den_of b i) 3 (column b (num_of b i) 3 (pair 2 (z_at b p i) 3 m))).columns
    product-size i m =
        let m1 = pair 2 (z_at b p i) 3 m in
        let m2 = column b (num_of b i) 3 m1 in
        let m3 = column b (den_of b i) 3 m2 in
        let a1 : size m1 ≡ suc (suc (size m)) = pair_size 2 (z_at b p i) 3 m in
        let a2 : size m2 + length m.columns ≡ size m1 + length (adding b (num_of b i) m.columns) = column-size (num_of b i) 3 m1 in
        let c2 : length m2.columns ≡ length (adding b (num_of b i) m.columns) = ap length (column-columns (num_of b i) 3 m1) in
        let a3 : size m3 + length m2.columns ≡ size m2 + length (adding b (den_of b i) m2.columns) = column-size (den_of b i) 3 m2 in
        let c3 : length m3.columns ≡ length (adding b (den_of b i) m2.columns) = ap length (column-columns (den_of b i) 3 m2) in
        omega arith

    pub products-columns : (i : ℕ) → (products b p i).columns ≡ plan.products b i
    unfolding products plan.products
    products-columns zero = lookups-columns (pu_count b)
    products-columns (suc i) =
        column-columns (den_of b i) 3 (column b (num_of b i) 3 (pair 2 (z_at b p i) 3 (products b p i)))
        ∙ ap (adding b (den_of b i)) (column-columns (num_of b i) 3 (pair 2 (z_at b p i) 3 (products b p i)) ∙ ap (adding b (num_of b i)) (products-columns i))

    products-size : (i : ℕ) → size (products b p i) ≡ 2 * cm1 b + 4 * pu_count b + 2 * i + length (products b p i).columns
    unfolding products
    products-size zero = lookups-size (pu_count b) ∙ omega arith
    products-size (suc i) = let k = product-size i (products b p i) in let l = products-size i in omega arith

    pub intermediates-columns : (i : ℕ) → (intermediates b p i).columns ≡ plan.columns b
    unfolding intermediates
    intermediates-columns zero = products-columns (product_count b)
    intermediates-columns (suc i) = intermediates-columns i

    intermediates-size : (i : ℕ) → size (intermediates b p i) ≡ 2 * cm1 b + 4 * pu_count b + 2 * product_count b + 2 * i + length (plan.columns b)
    unfolding intermediates
    intermediates-size zero = products-size (product_count b) ∙ rw (products-columns (product_count b)) (omega arith)
    intermediates-size (suc i) = pair_size 2 (z_at b p i) (dim_in b p (intermediates b p i) (im_of b i)) (intermediates b p i) ∙ rw (intermediates-size i) (omega arith)

    pub quotients-columns : (i : ℕ) → (quotients b p i).columns ≡ plan.columns b
    unfolding quotients
    quotients-columns zero = intermediates-columns (im_count b)
    quotients-columns (suc i) = quotients-columns i

    quotients-size : (i : ℕ) → size (quotients b p i) ≡ 2 * cm1 b + 4 * pu_count b + 2 * product_count b + 2 * im_count b + 2 * i + length (plan.columns b)
    unfolding quotients
    quotients-size zero = intermediates-size (im_count b) ∙ omega arith
    quotients-size (suc i) = pair_size 3 (cm1 b + cm2 b + cm3 b + i) (quotient_dim b p) (quotients b p i) ∙ rw (quotients-size i) (omega arith)

    -- THERE ARE AS MANY RECORDS as the plan counts
    pub mapped-size : size (mapped b p) ≡ record_count b
    unfolding mapped
    mapped-size =
        pol-size 10 3 (pol 9 (quotient_dim b p) (quotients b p (q_deg b))) ∙ ap suc (pol-size 9 (quotient_dim b p) (quotients b p (q_deg b))) ∙ rw (quotients-size (q_deg b)) (omega arith)

    -- ---- and no part has more

    module _ (fits : record_count b ≤ record_limit) where
      pub cm1s-fit : (i : ℕ) → i ≤ cm1 b → size (cm1s b p i) ≤ record_limit
      cm1s-fit i h = let k = cm1s-size i in omega arith

      pub lookups-fit : (i : ℕ) → i ≤ pu_count b → size (lookups b p i) ≤ record_limit
      lookups-fit i h = let k = lookups-size i in let l = ap length (lookups-columns i) in let q = lookups-all i h in omega arith

      pub products-fit : (i : ℕ) → i ≤ product_count b → size (products b p i) ≤ record_limit
      products-fit i h = let k = products-size i in let l = ap length (products-columns i) in let q = products_less i (product_count b) h in omega arith

      pub intermediates-fit : (i : ℕ) → i ≤ im_count b → size (intermediates b p i) ≤ record_limit
      intermediates-fit i h = let k = intermediates-size i in omega arith

      pub quotients-fit : (i : ℕ) → i ≤ q_deg b → size (quotients b p i) + 2 ≤ record_limit
      quotients-fit i h = let k = quotients-size i in omega arith
