-- WHAT A PLAN NAMES IS THERE (3), its bits are in range (16), and its counts agree (11).
-- Assumes nothing: these are definitions.
use Rattle.std.specs.Prelude.{ℕ, ◌+◌, ◌*◌, Bool, true, ◌&&◌, cond, List, eqb, leb, ltb}
use Rattle.kinds.specs.KindBytes as kind
use Rattle.frames.specs.Tables.{kind_in, id_in}
use Rattle.plans.specs.Plan.{every, n_bits, n_bits_ext, cm1, cm2, cm3, cm4, q_deg, c_exp, pu_count, im_count, q2exp_count, product_count, q2exp_at, number_at, f_of, t_of, num_of, den_of, im_of}

-- ── 3 ────────────────────────────────────────────────────────────────────────
module _ (b : List ℕ) where
  -- how many cm numbers there are
  abbrev pub cm_count : ℕ
  cm_count = cm1 b + cm2 b + cm3 b + cm4 b

  -- what each entry names, in a pool of m expressions
  abbrev pub lookup_there : ℕ → ℕ → Bool
  lookup_there m i = ltb (f_of b i) m && ltb (t_of b i) m

  abbrev pub product_there : ℕ → ℕ → Bool
  product_there m i = ltb (num_of b i) m && ltb (den_of b i) m

  abbrev pub im_there : ℕ → ℕ → Bool
  im_there m i = ltb (im_of b i) m

  abbrev pub q2exp_there : ℕ → ℕ → Bool
  q2exp_there m i = ltb (number_at b (q2exp_at b + i)) m

  -- EVERY EXPRESSION THAT IT NAMES
  unfoldable pub names_there : ℕ → Bool
  names_there m =
      every (lookup_there m) (pu_count b)
      && (every (product_there m) (product_count b)
      && (every (im_there m) (im_count b) && (every (q2exp_there m) (q2exp_count b) && ltb (c_exp b) m)))

-- of a leaf of this kind and id: a cm's number is below the first count, a q's below the second
abbrev pub leaf_there : ℕ → ℕ → ℕ → ℕ → Bool
leaf_there cms qs k i = cond (eqb k kind.cm) (ltb i cms) (cond (eqb k kind.q) (ltb i qs) true)

-- of each of the first n nodes in a table, dead or not
abbrev pub node_there : List ℕ → ℕ → ℕ → ℕ → Bool
node_there w cms qs i = leaf_there cms qs (kind_in w i) (id_in w i)

unfoldable pub leaves_there : List ℕ → ℕ → ℕ → ℕ → Bool
leaves_there w n cms qs = every (node_there w cms qs) n

-- ── 16 and 11 ────────────────────────────────────────────────────────────────
abbrev pub bits_limit : ℕ
bits_limit = 24

abbrev pub blowup_limit : ℕ
blowup_limit = 4

unfoldable pub bits_good : List ℕ → Bool
bits_good b = leb (n_bits b) bits_limit && (leb (n_bits b) (n_bits_ext b) && leb (n_bits_ext b) (n_bits b + blowup_limit))

unfoldable pub counts_agree : List ℕ → Bool
counts_agree b = eqb (cm2 b) (2 * pu_count b) && (eqb (cm3 b) (product_count b + im_count b) && eqb (cm4 b) (q_deg b))
