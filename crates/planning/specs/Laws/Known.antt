-- The records of a plan are in sections that there are: `map_section` refuses none of them.
-- Assumes nothing.
use Prim.Native.Nat.{ℕ, zero, suc, ◌+◌, ◌≤◌, ◌<◌}
use Rattle.std.specs.Prelude.{◌≡◌, Bool, ◌||◌, cond, List, [], ◌∷◌, ◌++◌}
use Rattle.std.proofs.Math.Path.{refl}
use Rattle.std.proofs.Common.{◌∙◌, arith, lt-ltb}
use Rattle.std.proofs.Math.Bool.{true, false}
use Rattle.pool.specs.Pool.{Pool}
use Rattle.plans.specs.Plan.{cm1, cm2, cm3, q_deg, pu_count, im_count, product_count, f_of, t_of, num_of, den_of, im_of}
use Rattle.plans.specs.Columns.{among, is_im}
use Rattle.sections.specs.Sections.{section_count, known}
use Rattle.sections.proofs.Laws.Maps.{known-append, known-one}
use Rattle.map_records.specs.Mapping.{Mapping, pol, pair, grown, column, cm1s, h_at, z_at, lookup, lookup_dim, lookups, products, dim_in, intermediates, quotient_dim, quotients, mapped}

abbrev Known : Mapping → Type 0
Known m = known m.sections ≡ true

one_known : (ss : List ℕ) (s : ℕ) → s < section_count → known ss ≡ true → known (ss ++ (s ∷ [])) ≡ true
one_known ss s l h = known-append ss (s ∷ []) ∙ rw (h, known-one s true (lt-ltb s section_count l))

pair-known : (s k d : ℕ) (m : Mapping) → s ≤ 3 → Known m → Known (pair s k d m)
pair-known s k d m l h = one_known (m.sections ++ (s ∷ [])) (s + 5) (omega arith) (one_known m.sections s (omega arith) h)

module _ (b : List ℕ) where
  column-known : (e d : ℕ) (m : Mapping) → Known m → Known (column b e d m)
  unfolding column
  column-known e d m h = go (is_im b e || among e m.columns)
    where
      go : (t : Bool) → Known (cond t m (grown b e (pol 4 d m)))
      go true = h
      go false = one_known m.sections 4 (omega arith) h

  module _ (p : Pool) where
    cm1s-known : (i : ℕ) → Known (cm1s b p i)
    unfolding cm1s known
    cm1s-known zero = refl
    cm1s-known (suc i) = pair-known 0 i 1 (cm1s b p i) (omega arith) (cm1s-known i)

    lookup-known : (i d : ℕ) (m : Mapping) → Known m → Known (lookup b p i d m)
    lookup-known i d m h =
        let m1 : Mapping = pair 1 (h_at b p i) d m in
        let m2 : Mapping = pair 1 (h_at b p i + 1) d m1 in
        column-known (t_of b i) d (column b (f_of b i) d m2)
        (column-known (f_of b i) d m2 (pair-known 1 (h_at b p i + 1) d m1 (omega arith) (pair-known 1 (h_at b p i) d m (omega arith) h)))

    lookups-known : (i : ℕ) → Known (lookups b p i)
    unfolding lookups
    lookups-known zero = cm1s-known (cm1 b)
    lookups-known (suc i) = lookup-known i (lookup_dim b p i (lookups b p i)) (lookups b p i) (lookups-known i)

    products-known : (i : ℕ) → Known (products b p i)
    unfolding products
    products-known zero = lookups-known (pu_count b)
    products-known (suc i) =
        let m1 : Mapping = pair 2 (z_at b p i) 3 (products b p i) in
        column-known (den_of b i) 3 (column b (num_of b i) 3 m1) (column-known (num_of b i) 3 m1 (pair-known 2 (z_at b p i) 3 (products b p i) (omega arith) (products-known i)))

    intermediates-known : (i : ℕ) → Known (intermediates b p i)
    unfolding intermediates
    intermediates-known zero = products-known (product_count b)
    intermediates-known (suc i) = pair-known 2 (z_at b p i) (dim_in b p (intermediates b p i) (im_of b i)) (intermediates b p i) (omega arith) (intermediates-known i)

    quotients-known : (i : ℕ) → Known (quotients b p i)
    unfolding quotients
    quotients-known zero = intermediates-known (im_count b)
    quotients-known (suc i) = pair-known 3 (cm1 b + cm2 b + cm3 b + i) (quotient_dim b p) (quotients b p i) (omega arith) (quotients-known i)

    pub mapped-known : known (mapped b p).sections ≡ true
    unfolding mapped
    mapped-known =
        one_known ((quotients b p (q_deg b)).sections ++ (9 ∷ [])) 10 (omega arith) (one_known (quotients b p (q_deg b)).sections 9 (omega arith) (quotients-known (q_deg b)))
