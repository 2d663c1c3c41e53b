-- The cm and the expressions, from tables with numbers at their front. Assumes nothing.
use Prim.Native.Nat.{ℕ, ◌<◌, ◌≤◌}
use mathlib.Core.Path.{◌≡◌, sym, ◌∙◌, ap, ap₂}
use mathlib.Core.List.{List, ◌++◌}
use native.Mathlib.Omega.{arith}
use lib.ListN.{length, get_or, take, replicate, length-replicate}
use lib.Seq.{get_or-take}
use Rattle.kinds.specs.Write.{write}
use Rattle.frames.specs.Order.{expression_limit}
use Rattle.pool.specs.Pool.{Pool}
use Rattle.plans.specs.Columns.{record_limit}
use Rattle.sections.specs.Sums.{each-length}
use Rattle.map_records.specs.Mapping.{cm1_n, cm4_n, tmpexp_n, twin, mapped}
use Rattle.plan_tables.specs.Tables.{numbers_in, cm_n, column_records, record_of, records_of, exp2pol, no_record}
use Rattle.plan_tables.specs.Listed.{Listed, listed_front, listed-size}
use Rattle.plan_tables.specs.Sectioned.{numbers-most}
use Rattle.plan_tables.specs.Gathered.{columns_of}
use Rattle.plan_tables.specs.Records.{RecordsAsks, RecordsGiven}
use Rattle.plan_tables.specs.Sizes.{mapped-columns, column-records-size}
use Rattle.plan_tables.specs.Whole.{exp2pol-of}
use Rattle.plan_map.specs.Numbers.{rows_by, column_row, cm_numbers, expression_numbers}
use Rattle.plan_map.specs.Puts.{Puts, puts-next, puts-is, rows_same}
use Rattle.plan_map.specs.Parts.{ExpressionsAsks}

-- ---- the numbers of records in sections a to c

module _ (ss : List ℕ) {l t : List ℕ} (n a c : ℕ) {r : ℕ} (size : length ss ≡ record_limit) (few : n ≤ record_limit) (room : length l ≡ record_limit) (h : Listed l t r (numbers_in a c 0 (take n ss))) where
  pub numbers-size : length t ≡ record_limit
  numbers-size = listed-size h ∙ room

  pub numbers-few : r ≤ length t
  numbers-few = omega (arith, numbers-size, h.count, numbers-most a c ss n (omega (arith, size, few)), few)

  pub numbers-front : take r t ≡ numbers_in a c 0 (take n ss)
  numbers-front = listed_front h (omega (arith, numbers-most a c ss n (omega (arith, size, few)), few, room))

-- ---- the cm

pub cms-put :
    {out o₁ o₂ o₃ : List ℕ} (ss cs : List ℕ) (n cms : ℕ) {at e₁ e₂ r : ℕ} → Puts out at (numbers_in cm1_n cm4_n 0 (take n ss)) o₁ e₁ → Puts o₁ e₁ (numbers_in (twin cm1_n) (twin cm4_n) 0 (take n ss)) o₂ e₂
    → Puts o₂ e₂ (take cms cs) o₃ r → Puts out at (cm_numbers (take n ss) cs cms) o₃ r
unfolding cm_numbers
cms-put ss cs n cms f g h = puts-next (puts-next f g) h

-- ---- the expressions

module _ {b ss : List ℕ} {n m : ℕ} {columns : List ℕ} {count at room : ℕ} {p : Pool} (a : ExpressionsAsks b ss n m columns count at room p) where
  pub records-asks : {t : List ℕ} → t ≡ replicate expression_limit no_record → RecordsAsks b m columns count t
  records-asks e = record { planned = a.planned; names = a.names; few_expressions = a.few_expressions; counted = a.counted; listed = a.listed; cleared = e }

  module _ {cms records blank t : List ℕ} {r k : ℕ} {l l' : List ℕ} (first : length l ≡ record_limit) (second : length l' ≡ record_limit)
      (c : Listed l cms r (numbers_in cm1_n cm4_n 0 (take n ss))) (d : Listed l' records k (numbers_in tmpexp_n tmpexp_n 0 (take n ss)))
      (e : blank ≡ replicate expression_limit no_record) (g : RecordsGiven b columns records count cms blank t) where
    filled : t ≡ write blank 0 (records_of b cms records (columns_of b) m)
    filled = g m (records-asks e)

    many : length (records_of b cms records (columns_of b) m) ≡ m
    many = each-length (record_of b cms records (columns_of b)) m

    list : Listed blank t m (records_of b cms records (columns_of b) m)
    list = record { count = sym many; held = filled }

    wide : length blank ≡ expression_limit
    wide = ap length e ∙ length-replicate {A = ℕ} expression_limit no_record

    pub table-size : length t ≡ expression_limit
    table-size = listed-size list ∙ wide

    cms_are : take r cms ≡ cm_n (mapped b p)
    cms_are = numbers-front ss n cm1_n cm4_n a.size a.few first c ∙ ap (numbers_in cm1_n cm4_n 0) a.sections

    records_are : take k records ≡ column_records (mapped b p)
    records_are = numbers-front ss n tmpexp_n tmpexp_n a.size a.few second d ∙ ap (numbers_in tmpexp_n tmpexp_n 0) a.sections

    counted : k ≡ length (column_records (mapped b p))
    counted = d.count ∙ ap (λ (z : List ℕ). length (numbers_in tmpexp_n tmpexp_n 0 z)) a.sections

    pols : take m t ≡ exp2pol b (mapped b p) m
    pols =
        listed_front list (omega (arith, many, wide, a.few_expressions))
        ∙ exp2pol-of b p a.planned m cms records r k cms_are (c.count ∙ ap (λ (z : List ℕ). length (numbers_in cm1_n cm4_n 0 z)) a.sections) records_are counted

    row : (j : ℕ) → j < count → column_row columns records j ≡ column_row (mapped b p).columns (column_records (mapped b p)) j
    row j h =
        let same : count ≡ k = a.counted ∙ sym (column-records-size b p) ∙ sym counted in
        let x : get_or columns j 0 ≡ get_or (mapped b p).columns j 0 = sym (get_or-take count columns j 0 h) ∙ ap (λ (z : List ℕ). get_or z j 0) (a.listed ∙ sym (mapped-columns b p)) in
        let y : get_or records j 0 ≡ get_or (column_records (mapped b p)) j 0 = sym (get_or-take k records j 0 (omega (arith, h, same))) ∙ ap (λ (z : List ℕ). get_or z j 0) records_are in
        cc

    rows : rows_by (column_row columns records) count ≡ rows_by (column_row (mapped b p).columns (column_records (mapped b p))) (length (mapped b p).columns)
    rows =
        rows_same (column_row columns records) (column_row (mapped b p).columns (column_records (mapped b p))) count row
        ∙ ap (rows_by (column_row (mapped b p).columns (column_records (mapped b p)))) (a.counted ∙ ap length (sym (mapped-columns b p)))

    pub expressions-put :
        {out o₁ o₂ : List ℕ} {e₁ s : ℕ} → Puts out at (rows_by (column_row columns records) count) o₁ e₁ → Puts o₁ e₁ (take m t) o₂ s
        → Puts out at (expression_numbers b (mapped b p) m) o₂ s
    unfolding expression_numbers
    expressions-put f h = puts-is (ap₂ (λ (x y : List ℕ). x ++ y) rows pols) (puts-next f h)
