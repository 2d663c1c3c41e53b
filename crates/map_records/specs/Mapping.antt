-- THE RECORDS OF A PLAN (`map` of starkinfo_map.rs): the sections and dimensions of its polynomial records, in the Rust's order, the expressions with a
-- temporary column, and cm_dims, as they stand after each part of the plan.
--
-- cm_dims are filled as the Rust fills them, while it fills them: an expression's dimension is asked for with those that stand at the time, and those of the
-- intermediates are written over those of the grand products, from n_cm1 + n_cm2 on.
-- Assumes nothing: these are definitions.
use Rattle.std.specs.Prelude.{ℕ, zero, suc, ◌+◌, ◌*◌, max, Bool, false, ◌||◌, cond, List, [], ◌∷◌, ◌++◌, set, replicate, eqb}
use Rattle.pool.specs.Pool.{Pool}
use Rattle.exp_dims.specs.Dimension.{exp_dim}
use Rattle.plans.specs.Plan.{cm1, cm2, cm3, q_deg, c_exp, pu_count, im_count, product_count, f_of, t_of, num_of, den_of, im_of, q2exp}
use Rattle.plans.specs.Columns.{among, is_im}

-- the sections of a cm in the domain "n", in document 01's order; five further on is its section in "2ns"
abbrev pub cm1_n : ℕ
cm1_n = 0

abbrev pub cm2_n : ℕ
cm2_n = 1

abbrev pub cm3_n : ℕ
cm3_n = 2

abbrev pub cm4_n : ℕ
cm4_n = 3

abbrev pub tmpexp_n : ℕ
tmpexp_n = 4

abbrev pub twin : ℕ → ℕ
twin s = s + 5

abbrev pub q2ns : ℕ
q2ns = 9

abbrev pub f2ns : ℕ
f2ns = 10

-- each cm has two records, and there are no more than 4,096
abbrev pub cm_limit : ℕ
cm_limit = 2048

-- cm_dims have room for as many cm as a plan may have: those that it has are at the front
pub record Mapping : Type 0 where
  pub sections : List ℕ
  pub dims : List ℕ
  pub columns : List ℕ
  pub cm_dims : List ℕ

-- one record more
abbrev pub pol : ℕ → ℕ → Mapping → Mapping
pol s d m = record { sections = m.sections ++ (s ∷ []); dims = m.dims ++ (d ∷ []); columns = m.columns; cm_dims = m.cm_dims }

-- the two records of a cm, and what is written into cm_dims at k
abbrev pub pair : ℕ → ℕ → ℕ → Mapping → Mapping
pair s k d m = let p = pol (twin s) d (pol s d m) in record { sections = p.sections; dims = p.dims; columns = p.columns; cm_dims = set m.cm_dims k d }

-- a temporary column for expression e, unless it is an intermediate or has one
module _ (b : List ℕ) where
  abbrev pub grown : ℕ → Mapping → Mapping
  grown e p = record { sections = p.sections; dims = p.dims; columns = p.columns ++ (e ∷ []); cm_dims = p.cm_dims }

  unfoldable pub column : ℕ → ℕ → Mapping → Mapping
  column e d m = cond (is_im b e || among e m.columns) m (grown e (pol tmpexp_n d m))

  module _ (p : Pool) where
    -- the dimension of an expression with cm_dims as they stand
    abbrev pub dim_in : Mapping → ℕ → ℕ
    dim_in m e = exp_dim m.cm_dims (q2exp b) p e

    abbrev pub fresh : Mapping
    fresh = record { sections = []; dims = []; columns = []; cm_dims = replicate cm_limit 0 }

    -- after the first n of n_cm1
    unfoldable pub cm1s : ℕ → Mapping
    cm1s zero = fresh
    cm1s (suc i) = pair cm1_n i 1 (cm1s i)

    -- one pu: h1 and h2, then columns of f and t
    abbrev pub lookup_dim : ℕ → Mapping → ℕ
    lookup_dim i m = max (dim_in m (f_of b i)) (dim_in m (t_of b i))

    abbrev pub h_at : ℕ → ℕ
    h_at i = cm1 b + 2 * i

    abbrev pub lookup : ℕ → ℕ → Mapping → Mapping
    lookup i d m = column (t_of b i) d (column (f_of b i) d (pair cm2_n (h_at i + 1) d (pair cm2_n (h_at i) d m)))

    -- after the first n pu
    unfoldable pub lookups : ℕ → Mapping
    lookups zero = cm1s (cm1 b)
    lookups (suc i) = lookup i (lookup_dim i (lookups i)) (lookups i)

    -- where the z of a grand product and the intermediates are written into cm_dims
    abbrev pub z_at : ℕ → ℕ
    z_at i = cm1 b + cm2 b + i

    -- after the first n grand products: z, then columns of num and den
    unfoldable pub products : ℕ → Mapping
    products zero = lookups (pu_count b)
    products (suc i) = column (den_of b i) 3 (column (num_of b i) 3 (pair cm3_n (z_at i) 3 (products i)))

    -- after the first n intermediates
    unfoldable pub intermediates : ℕ → Mapping
    intermediates zero = products (product_count b)
    intermediates (suc i) = pair cm3_n (z_at i) (dim_in (intermediates i) (im_of b i)) (intermediates i)

    -- q_dim
    unfoldable pub quotient_dim : ℕ
    quotient_dim = dim_in (intermediates (im_count b)) (c_exp b)

    -- after the first n pieces of the quotient
    unfoldable pub quotients : ℕ → Mapping
    quotients zero = intermediates (im_count b)
    quotients (suc i) = pair cm4_n (cm1 b + cm2 b + cm3 b + i) quotient_dim (quotients i)

    -- ALL RECORDS: those of q and of f last
    unfoldable pub mapped : Mapping
    mapped = pol f2ns 3 (pol q2ns quotient_dim (quotients (q_deg b)))

-- 12: some record has no dimension
unfoldable pub some_none : List ℕ → Bool
some_none [] = false
some_none (d ∷ ds) = eqb d 0 || some_none ds
