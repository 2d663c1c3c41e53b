-- WHERE RECORDS STAND IN THEIR SECTIONS, and how wide the sections are: document 01, "Sections, dimensions, fixing", for records whose sections, dimensions
-- and positions are three lists.
-- Assumes nothing: these are definitions.
use Rattle.std.specs.Prelude.{ℕ, ◌+◌, ◌-◌, ◌*◌, ◌/◌, Bool, true, cond, ◌&&◌, ◌||◌, List, [], ◌∷◌, ◌++◌, length, get_or, take, eqb, leb, ltb}
use Rattle.std.proofs.Math.Option.{none}
use Rattle.kinds.specs.Range.{within}
use Rattle.meaning.specs.Refusals.{Refusal, Answer, done, refused}
use Rattle.sections.specs.Sums.{sum, each}

-- the sections of document 01's offsets
abbrev pub section_count : ℕ
section_count = 11

-- N1 of each section, then N of each, then N3 of each
abbrev pub width_count : ℕ
width_count = 3 * section_count

abbrev pub record_limit : ℕ
record_limit = 4096

-- the dimensions that have a place
unfoldable pub placed : ℕ → Bool
placed d = within 1 3 d

module _ (ss ds : List ℕ) where
  abbrev pub section_at : ℕ → ℕ
  section_at k = get_or ss k 0

  abbrev pub dim_at : ℕ → ℕ
  dim_at k = get_or ds k 0

  -- the dimensions of the records that are meant, added up
  abbrev pub sum_over : (ℕ → Bool) → ℕ
  sum_over meant = sum (λ j. cond (meant j) (dim_at j) 0) (length ds)

  -- within a section, records of dimension 1 come first, then 2, then 3, each group in record order
  abbrev pub comes_before : ℕ → ℕ → Bool
  comes_before j k =
      eqb (section_at j) (section_at k)
      && (placed (dim_at j) && (ltb (dim_at j) (dim_at k) || (eqb (dim_at j) (dim_at k) && ltb j k)))

  -- a position is the sum of dimensions placed before; a record of another dimension keeps its old one
  unfoldable pub position_of : ℕ → ℕ → ℕ
  position_of old k = cond (placed (dim_at k)) (sum_over (λ j. comes_before j k)) old

  -- N1 is the width after dimension 1, N after 3
  unfoldable pub first_width : ℕ → ℕ
  first_width s = sum_over (λ j. eqb (section_at j) s && eqb (dim_at j) 1)

  unfoldable pub whole_width : ℕ → ℕ
  whole_width s = sum_over (λ j. eqb (section_at j) s && placed (dim_at j))

  -- N3 = (N - N1) / 3 rounded down
  unfoldable pub third_width : ℕ → ℕ
  third_width s = (whole_width s - first_width s) / 3

  abbrev pub positions_from : List ℕ → List ℕ
  positions_from ps = each (λ k. position_of (get_or ps k 0) k) (length ps)

  abbrev pub widths : List ℕ
  widths = each first_width section_count ++ each whole_width section_count ++ each third_width section_count

-- what is written
pub record Mapping : Type 0 where
  pub positions : List ℕ
  pub widths : List ℕ

unfoldable pub known : List ℕ → Bool
known [] = true
known (s ∷ ss) = ltb s section_count && known ss

-- lists of one length, room for the widths, and no unknown section up to the first record past the limit
unfoldable pub well_formed : List ℕ → List ℕ → List ℕ → ℕ → Bool
well_formed ss ds ps room =
    eqb (length ds) (length ss)
    && (eqb (length ps) (length ss) && (eqb room width_count && known (take (record_limit + 1) ss)))

-- THE SECTIONS MAPPED: the records of the sections ss, the dimensions ds and the positions ps, into a lent room for the widths.
-- Reading in order, the first record that is malformed (1) or past the limit (9) decides; one that is both gets 1
unfoldable pub mapping : List ℕ → List ℕ → List ℕ → ℕ → Answer Mapping
mapping ss ds ps room =
    cond (well_formed ss ds ps room)
    (cond (leb (length ss) record_limit)
    (done (record { positions = positions_from ss ds ps; widths = widths ss ds }))
    (refused Refusal.full none))
    (refused Refusal.malformed none)
