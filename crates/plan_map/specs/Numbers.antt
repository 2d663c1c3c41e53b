-- THE BYTES THAT `map` ANSWERS.
--
-- All numbers are big-endian. 12 offsets of 8 bytes: those of the eleven sections, and the total. Then numbers of 2 bytes: how many records there are, how many cm, how many temporary columns, and q_dim; N1 of
-- the eleven sections, N of each, N3 of each; section, dimension and position of each record; cm_n; cm_2ns; cm_dims, as many as cm; expression and record of each temporary column; exp2pol, for each expression
-- of the pool, ffff for none.
-- Assumes nothing: these are definitions.
use Rattle.std.specs.Prelude.{ℕ, zero, suc, ◌/◌, ◌%◌, List, [], ◌∷◌, ◌++◌, length, get_or, take}
use Rattle.kinds.specs.BigEndian.{u16_bytes}
use Rattle.plans.specs.Plan.{n_bits, n_bits_ext}
use Rattle.plans.specs.Agreement.{cm_count}
use Rattle.sections.specs.Sections.{widths}
use Rattle.map_records.specs.Mapping.{Mapping, cm1_n, cm4_n, twin, quotient_dim}
use Rattle.plan_tables.specs.Tables.{numbers_in, column_records, positions, exp2pol, offset_count, offsets_of}
use Rattle.planning.specs.Planning.{Planned}

-- numbers of two bytes each, one behind the other
unfoldable pub u16s : List ℕ → List ℕ
u16s [] = []
u16s (x ∷ xs) = u16_bytes x ++ u16s xs

-- the four numbers of two bytes that one of eight bytes is
abbrev pub quarters : ℕ → List ℕ
quarters x = x / 0x1000000000000 ∷ x / 0x100000000 % 0x10000 ∷ x / 0x10000 % 0x10000 ∷ x % 0x10000 ∷ []

-- f 0, .., f (n - 1), one behind the other
unfoldable pub rows_by : (ℕ → List ℕ) → ℕ → List ℕ
rows_by f zero = []
rows_by f (suc n) = rows_by f n ++ f n

abbrev pub offset_row : List ℕ → ℕ → List ℕ
offset_row offsets k = quarters (get_or offsets k 0)

abbrev pub record_row : List ℕ → List ℕ → List ℕ → ℕ → List ℕ
record_row ss ds ps k = get_or ss k 0 ∷ get_or ds k 0 ∷ get_or ps k 0 ∷ []

abbrev pub column_row : List ℕ → List ℕ → ℕ → List ℕ
column_row columns records k = get_or columns k 0 ∷ get_or records k 0 ∷ []

-- ── the sections ─────────────────────────────────────────────────────────────
-- offsets with n and e bits, counts, and widths
unfoldable pub head_numbers : ℕ → ℕ → List ℕ → List ℕ → List ℕ
head_numbers n e ws counts = rows_by (offset_row (offsets_of n e ws)) offset_count ++ counts ++ ws

-- and the records, with their positions ps
unfoldable pub section_numbers : ℕ → ℕ → List ℕ → List ℕ → List ℕ → List ℕ → List ℕ
section_numbers n e ss ds ps counts = head_numbers n e (widths ss ds) counts ++ rows_by (record_row ss ds ps) (length ss)

-- ── the cm ───────────────────────────────────────────────────────────────────
-- cm_n, cm_2ns, and the first n of cm_dims
unfoldable pub cm_numbers : List ℕ → List ℕ → ℕ → List ℕ
cm_numbers ss cs n = numbers_in cm1_n cm4_n 0 ss ++ numbers_in (twin cm1_n) (twin cm4_n) 0 ss ++ take n cs

-- ── the expressions ──────────────────────────────────────────────────────────
-- the temporary columns, and the records of n expressions
unfoldable pub expression_numbers : List ℕ → Mapping → ℕ → List ℕ
expression_numbers b m n = rows_by (column_row m.columns (column_records m)) (length m.columns) ++ exp2pol b m n

-- ── all ──────────────────────────────────────────────────────────────────────
module _ (b : List ℕ) (z : Planned) where
  abbrev pub counts : List ℕ
  counts = length z.mapping.sections ∷ cm_count b ∷ length z.mapping.columns ∷ quotient_dim b z.pool ∷ []

  unfoldable pub map_numbers : List ℕ
  map_numbers =
      let m : Mapping = z.mapping in
      section_numbers (n_bits b) (n_bits_ext b) m.sections m.dims (positions m) counts
      ++ cm_numbers m.sections m.cm_dims (cm_count b)
      ++ expression_numbers b m (length z.pool.expressions)

  -- THE BYTES
  abbrev pub map_bytes : List ℕ
  map_bytes = u16s map_numbers
