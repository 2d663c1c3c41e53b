-- THE TEMPORARY COLUMNS of a plan, and how many records `map` would make: 9 where they are more than 4,096.
-- Assumes nothing: these are definitions.
use Rattle.std.specs.Prelude.{ℕ, zero, suc, ◌+◌, ◌*◌, Bool, false, ◌||◌, cond, List, [], ◌∷◌, ◌++◌, length, eqb, leb}
use Rattle.plans.specs.Plan.{any, cm1, q_deg, pu_count, im_count, product_count, f_of, t_of, num_of, den_of, im_of}

abbrev pub record_limit : ℕ
record_limit = 4096

unfoldable pub among : ℕ → List ℕ → Bool
among e [] = false
among e (c ∷ cs) = eqb e c || among e cs

module _ (b : List ℕ) where
  unfoldable pub is_im : ℕ → Bool
  is_im e = any (λ i. eqb (im_of b i) e) (im_count b)

  -- an expression that is no intermediate and has no column gets the next
  unfoldable pub adding : ℕ → List ℕ → List ℕ
  adding e cs = cond (is_im e || among e cs) cs (cs ++ (e ∷ []))

  -- of the first n pu: f, then t
  unfoldable pub lookups : ℕ → List ℕ
  lookups zero = []
  lookups (suc i) = adding (t_of b i) (adding (f_of b i) (lookups i))

  -- then of the first n grand products: num, then den
  unfoldable pub products : ℕ → List ℕ
  products zero = lookups (pu_count b)
  products (suc i) = adding (den_of b i) (adding (num_of b i) (products i))

  -- EXPRESSIONS WITH A TEMPORARY COLUMN, in the order of their columns
  abbrev pub columns : List ℕ
  columns = products (product_count b)

  -- two records for each cm, one for each temporary column, one for q and one for f
  abbrev pub pair_records : ℕ
  pair_records = 2 * cm1 b + 4 * pu_count b + 2 * product_count b + 2 * im_count b + 2 * q_deg b + 2

  -- no more than the expressions that are named
  abbrev pub most_columns : ℕ
  most_columns = 2 * (pu_count b + product_count b)

  abbrev pub record_count : ℕ
  record_count = pair_records + length columns

  -- 9 otherwise
  unfoldable pub fits : Bool
  fits = leb record_count record_limit
