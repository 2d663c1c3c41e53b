-- THE TABLES OF A PLAN, which the walks over lists and the answer of `map` take from its records: the record of each cm number and of each temporary column, its
-- trees, what fixing makes of each expression, the record of each expression, and the offsets of the sections.
-- Assumes nothing: these are definitions.
use Rattle.std.specs.Prelude.{ℕ, zero, suc, ◌+◌, ◌-◌, ◌*◌, ◌^◌, Bool, cond, List, [], ◌∷◌, length, get_or, replicate, eqb, leb}
use Rattle.kinds.specs.KindBytes as kind
use Rattle.kinds.specs.Range.{within}
use Rattle.pool.specs.Pool.{Pool}
use Rattle.exp_dims.specs.Dimension.{exp_dim}
use Rattle.sections.specs.Sums.{sum, each}
use Rattle.sections.specs.Sections.{section_count, positions_from}
use Rattle.plans.specs.Plan.{cm1, cm2, im_count, im_of, im_cm, product_count, q2exp}
use Rattle.map_records.specs.Mapping.{Mapping, cm1_n, cm4_n, tmpexp_n, twin}

-- kind, number and dimension in one number, as the walks over lists read them
abbrev pub packed : ℕ → ℕ → ℕ → ℕ
packed k i d = k * 0x100000000 + i * 0x10000 + d

-- ── records ──────────────────────────────────────────────────────────────────
-- the numbers, from k on, of the records in sections a to b
abbrev pub numbers_in : ℕ → ℕ → ℕ → List ℕ → List ℕ
numbers_in a b k [] = []
numbers_in a b k (s ∷ ss) = let rest = numbers_in a b (suc k) ss in cond (within a b s) (k ∷ rest) rest

-- cm_n and cm_2ns: the record of each cm number in each of the two domains
abbrev pub cm_n : Mapping → List ℕ
cm_n m = numbers_in cm1_n cm4_n 0 m.sections

abbrev pub cm2ns : Mapping → List ℕ
cm2ns m = numbers_in (twin cm1_n) (twin cm4_n) 0 m.sections

-- the record of each temporary column
abbrev pub column_records : Mapping → List ℕ
column_records m = numbers_in tmpexp_n tmpexp_n 0 m.sections

-- ── trees ────────────────────────────────────────────────────────────────────
-- tree1 to tree4 by section, with position and dimension
abbrev pub tree_word : ℕ → ℕ → ℕ → ℕ
tree_word s p d = packed (kind.tree1 + (s - twin cm1_n)) p d

abbrev pub trees_of : List ℕ → List ℕ → List ℕ → List ℕ → List ℕ
trees_of ss ds ps [] = []
trees_of ss ds ps (r ∷ rs) = tree_word (get_or ss r 0) (get_or ps r 0) (get_or ds r 0) ∷ trees_of ss ds ps rs

-- those of the records in "2ns" of a cm
abbrev pub trees_in : List ℕ → List ℕ → List ℕ → List ℕ
trees_in ss ds ps = trees_of ss ds ps (numbers_in (twin cm1_n) (twin cm4_n) 0 ss)

abbrev pub positions : Mapping → List ℕ
positions m = positions_from m.sections m.dims (replicate (length m.sections) 0)

abbrev pub trees : Mapping → List ℕ
trees m = trees_in m.sections m.dims (positions m)

-- ── by expression ────────────────────────────────────────────────────────────
-- what the first column of expression e has, where those from number k on are listed; else another
abbrev pub of_column : (ℕ → ℕ) → ℕ → ℕ → List ℕ → ℕ → ℕ
of_column f e k [] other = other
of_column f e k (c ∷ cs) other = cond (eqb c e) (f k) (of_column f e (suc k) cs other)

-- what the last of the first n intermediates that is expression e has; else another
abbrev pub of_im : List ℕ → (ℕ → ℕ) → ℕ → ℕ → ℕ → ℕ
of_im b f e zero other = other
of_im b f e (suc i) other = cond (eqb (im_of b i) e) (f i) (of_im b f e i other)

module _ (b : List ℕ) (p : Pool) (cm_dims columns : List ℕ) where
  -- a temporary column has the dimension of its expression
  abbrev pub column_rule : ℕ → ℕ
  column_rule e = of_column (λ k. packed kind.tmp_exp k (exp_dim cm_dims (q2exp b) p e)) e 0 columns 0

  -- WHAT AN EXPRESSION BECOMES: an intermediate its cm, in "n" one with a temporary column that, any other a new temporary
  abbrev pub rule_of : Bool → ℕ → ℕ
  rule_of in_n e = of_im b (λ i. packed kind.cm (im_cm b i) 0) e (im_count b) (cond in_n (column_rule e) 0)

  abbrev pub rules_of : Bool → List ℕ
  rules_of in_n = each (rule_of in_n) (length p.expressions)

abbrev pub rules : Bool → Pool → List ℕ → Mapping → List ℕ
rules in_n p b m = rules_of b p m.cm_dims m.columns in_n

-- an expression without a record
abbrev pub no_record : ℕ
no_record = 0xffff

-- the cm of intermediate i, by its place among those of the plan
abbrev pub im_place : List ℕ → ℕ → ℕ
im_place b i = cm1 b + cm2 b + product_count b + i

-- THE RECORD OF AN EXPRESSION in the domain "n", by cm_n and the records of the temporary columns: of its intermediate's cm, or of its column
module _ (b cms temporaries columns : List ℕ) where
  abbrev pub record_of : ℕ → ℕ
  record_of e = of_im b (λ i. get_or cms (im_place b i) 0) e (im_count b) (of_column (λ k. get_or temporaries k 0) e 0 columns no_record)

  abbrev pub records_of : ℕ → List ℕ
  records_of n = each record_of n

-- exp2pol, for as many expressions
abbrev pub exp2pol : List ℕ → Mapping → ℕ → List ℕ
exp2pol b m n = records_of b (cm_n m) (column_records m) m.columns n

-- ── offsets ──────────────────────────────────────────────────────────────────
-- the rows of a section: 2^nBits in the domain "n", 2^nBitsExt in the other
abbrev pub rows_of : ℕ → ℕ → ℕ → ℕ
rows_of n e s = cond (leb s tmpexp_n) (2 ^ n) (2 ^ e)

-- what the sections before s take, with N of each among the widths
abbrev pub offset_of : ℕ → ℕ → List ℕ → ℕ → ℕ
offset_of n e widths s = sum (λ j. rows_of n e j * get_or widths (section_count + j) 0) s

-- THE OFFSETS of the eleven sections, then the total
abbrev pub offset_count : ℕ
offset_count = suc section_count

abbrev pub offsets_of : ℕ → ℕ → List ℕ → List ℕ
offsets_of n e widths = each (offset_of n e widths) offset_count
