-- RECORDS LENT AS A LIST OF STRUCTS, with their positions written: `mapping` of sections over their columns.
-- Assumes nothing: these are definitions.
use Rattle.std.specs.Prelude.{ℕ, ◌≡◌, cond, ◌&&◌, List, [], ◌∷◌, length, eqb}
use Rattle.std.proofs.Math.Option.{none}
use Rattle.meaning.specs.Refusals.{Refusal, Answer, done, refused, answer_no}
use Rattle.sections.specs.Sections.{Mapping, mapping}
use Rattle.sections.specs.Answer.{positions_after, widths_after}
use Rattle.records.specs.declared.PolType.{PolType}

-- what stands past the end of a list of records
abbrev pub blank : PolType
blank = record { section = 0; dim = 0; section_pos = 0 }

abbrev pub moved : PolType → ℕ → PolType
moved r p = record { section = r.section; dim = r.dim; section_pos = p }

-- each record with the number at its place in ps for its position
unfoldable pub written : List ℕ → List PolType → List PolType
written ps [] = []
written [] (r ∷ rs) = r ∷ rs
written (p ∷ ps) (r ∷ rs) = moved r p ∷ written ps rs

-- the columns of records
unfoldable pub sections_of : List PolType → List ℕ
sections_of [] = []
sections_of (r ∷ rs) = r.section ∷ sections_of rs

unfoldable pub dims_of : List PolType → List ℕ
dims_of [] = []
dims_of (r ∷ rs) = r.dim ∷ dims_of rs

unfoldable pub positions_of : List PolType → List ℕ
positions_of [] = []
positions_of (r ∷ rs) = r.section_pos ∷ positions_of rs

-- the records mapped, with columns of the lengths a, b and c lent beside them, and room for the widths
unfoldable pub records_mapping : List PolType → ℕ → ℕ → ℕ → ℕ → Answer Mapping
records_mapping rs a b c room =
    cond (eqb a (length rs) && (eqb b (length rs) && eqb c (length rs)))
    (mapping (sections_of rs) (dims_of rs) (positions_of rs) room)
    (refused Refusal.malformed none)

abbrev pub records_after : List PolType → Answer Mapping → List PolType
records_after rs (done m) = written m.positions rs
records_after rs (refused r n) = rs

abbrev pub column_after : List ℕ → List ℕ → Answer Mapping → List ℕ
column_after column was (done m) = column
column_after column was (refused r n) = was

-- WHAT enonkasse_map_section GIVES: the columns that are lent hold the records' columns after it, and the positions; nothing has changed where it is refused
pub record RecordsMapped (rs rs' : List PolType) (ss ss' ds ds' ps ps' ws ws' : List ℕ) (no : ℕ) : Type 0 where
  pub says : no ≡ answer_no (records_mapping rs (length ss) (length ds) (length ps) (length ws))
  pub records : rs' ≡ records_after rs (records_mapping rs (length ss) (length ds) (length ps) (length ws))
  pub sections : ss' ≡ column_after (sections_of rs) ss (records_mapping rs (length ss) (length ds) (length ps) (length ws))
  pub dims : ds' ≡ column_after (dims_of rs) ds (records_mapping rs (length ss) (length ds) (length ps) (length ws))
  pub positions : ps' ≡ positions_after ps (records_mapping rs (length ss) (length ds) (length ps) (length ws))
  pub widths : ws' ≡ widths_after ws (records_mapping rs (length ss) (length ds) (length ps) (length ws))
