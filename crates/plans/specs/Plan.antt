-- A PLAN: what `map` is asked, as a byte record of numbers of two bytes each, and what stands there.
--
-- number 0: n_bits and n_bits_ext, a byte each; 1 to 4: n_cm1 to n_cm4; 5: q_deg; 6: c_exp; 7 to 12: how many of pu, pe, ci, intermediates, qs and q2exp follow.
-- From 13 on: f, t, num, den of each pu; num, den of each pe, then of each ci; expression and cm number of each intermediate; the qs; the q2exp.
-- Assumes nothing: these are definitions.
use Rattle.std.specs.Prelude.{ℕ, zero, suc, ◌+◌, ◌-◌, ◌*◌, ◌≤◌, ◌<◌, ◌≡◌, Bool, true, false, ◌&&◌, ◌||◌, cond, List, length, get_or, eqb, leb, ltb}
use Rattle.kinds.specs.BigEndian.{u16_at}
use Rattle.frames.specs.Tables.{first}

-- number k of a record
unfoldable pub number_at : List ℕ → ℕ → ℕ
number_at b k = u16_at b (2 * k)

-- a number of two bytes is below it
abbrev pub number_limit : ℕ
number_limit = 65536

-- r is x, and below a limit
pub record Is (r x limit : ℕ) : Type 0 where
  pub is : r ≡ x
  pub low : r < limit

-- ── counts ───────────────────────────────────────────────────────────────────
abbrev pub n_bits : List ℕ → ℕ
n_bits b = get_or b 0 0

abbrev pub n_bits_ext : List ℕ → ℕ
n_bits_ext b = get_or b 1 0

abbrev pub cm1 : List ℕ → ℕ
cm1 b = number_at b 1

abbrev pub cm2 : List ℕ → ℕ
cm2 b = number_at b 2

abbrev pub cm3 : List ℕ → ℕ
cm3 b = number_at b 3

abbrev pub cm4 : List ℕ → ℕ
cm4 b = number_at b 4

abbrev pub q_deg : List ℕ → ℕ
q_deg b = number_at b 5

abbrev pub c_exp : List ℕ → ℕ
c_exp b = number_at b 6

abbrev pub pu_count : List ℕ → ℕ
pu_count b = number_at b 7

abbrev pub pe_count : List ℕ → ℕ
pe_count b = number_at b 8

abbrev pub ci_count : List ℕ → ℕ
ci_count b = number_at b 9

abbrev pub im_count : List ℕ → ℕ
im_count b = number_at b 10

abbrev pub qs_count : List ℕ → ℕ
qs_count b = number_at b 11

abbrev pub q2exp_count : List ℕ → ℕ
q2exp_count b = number_at b 12

-- ── where each part begins ───────────────────────────────────────────────────
abbrev pub head_size : ℕ
head_size = 13

abbrev pub pe_at : List ℕ → ℕ
pe_at b = head_size + 4 * pu_count b

abbrev pub im_at : List ℕ → ℕ
im_at b = pe_at b + 2 * (pe_count b + ci_count b)

abbrev pub qs_at : List ℕ → ℕ
qs_at b = im_at b + 2 * im_count b

abbrev pub q2exp_at : List ℕ → ℕ
q2exp_at b = qs_at b + qs_count b

abbrev pub end_at : List ℕ → ℕ
end_at b = q2exp_at b + q2exp_count b

-- the head is there
abbrev pub Headed : List ℕ → Type 0
Headed b = 2 * head_size ≤ length b

-- ── what stands there ────────────────────────────────────────────────────────
abbrev pub f_of : List ℕ → ℕ → ℕ
f_of b i = number_at b (head_size + 4 * i)

abbrev pub t_of : List ℕ → ℕ → ℕ
t_of b i = number_at b (head_size + 4 * i + 1)

-- the place of the num of a grand product: those of the pu, then those of the pe, then those of the ci; its den follows
abbrev pub product_count : List ℕ → ℕ
product_count b = pu_count b + (pe_count b + ci_count b)

abbrev pub product_at : List ℕ → ℕ → ℕ
product_at b i = cond (ltb i (pu_count b)) (head_size + 4 * i + 2) (pe_at b + 2 * (i - pu_count b))

abbrev pub num_of : List ℕ → ℕ → ℕ
num_of b i = number_at b (product_at b i)

abbrev pub den_of : List ℕ → ℕ → ℕ
den_of b i = number_at b (product_at b i + 1)

-- an intermediate's expression, and its cm number
abbrev pub im_of : List ℕ → ℕ → ℕ
im_of b i = number_at b (im_at b + 2 * i)

abbrev pub im_cm : List ℕ → ℕ → ℕ
im_cm b i = number_at b (im_at b + 2 * i + 1)

abbrev pub qs : List ℕ → List ℕ
qs b = first (λ i. number_at b (qs_at b + i)) (qs_count b)

-- the expression of each q number
abbrev pub q2exp : List ℕ → List ℕ
q2exp b = first (λ i. number_at b (q2exp_at b + i)) (q2exp_count b)

-- ── when a record is a plan ──────────────────────────────────────────────────
-- a test of each number below n, and of some
abbrev pub every : (ℕ → Bool) → ℕ → Bool
every f zero = true
every f (suc n) = every f n && f n

abbrev pub any : (ℕ → Bool) → ℕ → Bool
any f zero = false
any f (suc n) = any f n || f n

-- the expressions of the intermediates ascend
abbrev pub ascends : List ℕ → ℕ → Bool
ascends b i = ltb (im_of b i) (im_of b (suc i))

abbrev pub ascending : List ℕ → Bool
ascending b = every (ascends b) (im_count b - 1)

-- as long as its counts say
abbrev pub Whole : List ℕ → Type 0
Whole b = Headed b × (length b ≡ 2 * end_at b)

-- MALFORMED (1) otherwise
unfoldable pub is_plan : List ℕ → Bool
is_plan b = leb (2 * head_size) (length b) && (eqb (length b) (2 * end_at b) && ascending b)
