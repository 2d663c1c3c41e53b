-- WHAT IS REFUSED OF RECORDS THAT ARE LENT AS STRUCTS, by the lengths of the columns that are lent beside them and by whether a section is unknown; and the
-- columns mapped where nothing is. Assumes nothing: these are definitions.
use Rattle.std.specs.Prelude.{ℕ, ◌≡◌, Bool, cond, ◌&&◌, List, length, take, eqb, leb, ltb, Result}
use Rattle.kinds.specs.declared.refusal.Refusal.{Refusal}
use Rattle.meaning.specs.Refusals.{answer_no}
use Rattle.sections.specs.Sections.{section_count, width_count, record_limit, known, mapping}
use Rattle.sections.specs.Groups.{count_to_read}
use Rattle.sections.specs.Answer.{mapped_no, positions_after, widths_after}
use Rattle.records.specs.declared.PolType.{PolType}
use Rattle.records.specs.Records.{sections_of}

-- 0 while every section is known
unfoldable pub bad_after : ℕ → ℕ → ℕ
bad_after bad s = cond (ltb s section_count) bad 1

unfoldable pub formed : ℕ → ℕ → ℕ → ℕ → ℕ → ℕ → Bool
formed bad n a b c w = eqb bad 0 && (eqb a n && (eqb b n && (eqb c n && eqb w width_count)))

unfoldable pub refusal_no : ℕ → ℕ → ℕ → ℕ → ℕ → ℕ → ℕ
refusal_no bad n a b c w = cond (formed bad n a b c w) (cond (leb n record_limit) 0 9) 1

-- all records, or none
unfoldable pub accepted_count : ℕ → ℕ → ℕ → ℕ → ℕ → ℕ → ℕ
accepted_count bad n a b c w = cond (eqb (refusal_no bad n a b c w) 0) n 0

-- 0 where the sections are known, else 1
abbrev pub bad_in : List ℕ → ℕ
bad_in ss = cond (known ss) 0 1

-- what is refused of records, with columns of the lengths a, b and c lent beside them, and room for the widths
abbrev pub AdmittedIs : List PolType → ℕ → ℕ → ℕ → ℕ → Result Unit Refusal → Type 0
AdmittedIs rs a b c w r = mapped_no r ≡ refusal_no (bad_in (take (count_to_read (length rs)) (sections_of rs))) (length rs) a b c w

-- mapped, or left alone
pub data ColumnsMapped (bad n : ℕ) (ss ds ps ps' ws ws' : List ℕ) (no : ℕ) : Type 0 where
  alone : no ≡ refusal_no bad n (length ss) (length ds) (length ps) (length ws) → (no ≡ 0 → ⊥) → ps' ≡ ps → ws' ≡ ws → ColumnsMapped bad n ss ds ps ps' ws ws' no
  mapped : refusal_no bad n (length ss) (length ds) (length ps) (length ws) ≡ 0 → no ≡ answer_no (mapping ss ds ps (length ws)) → ps' ≡ positions_after ps (mapping ss ds ps (length ws)) → ws' ≡ widths_after ws (mapping ss ds ps (length ws)) → ColumnsMapped bad n ss ds ps ps' ws ws' no
