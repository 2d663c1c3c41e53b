-- THE RECORDS OF A LENT LIST, and which are well formed. A record is malformed (1) where it counts more than three sources, or where its destination or one of
-- the sources that it counts has an unknown kind or a prime other than 0 and 1.
-- Assumes nothing: these are definitions.
use Rattle.std.specs.Prelude.{ℕ, ◌/◌, ◌%◌, Bool, true, ◌&&◌, List, [], ◌∷◌, length, eqb, leb}
use Rattle.kinds.specs.Kinds.{is_reference}
use Rattle.kinds.specs.Steps.{step_size, steps_of}
use Rattle.kinds.specs.declared.reference.Reference.{Reference}
use Rattle.kinds.specs.declared.step.Step as bytes
use Rattle.meaning.specs.Trees.{up_to}

-- ---- the records of a list

-- how many whole records there are
abbrev pub record_count : List ℕ → ℕ
record_count l = length l / step_size

abbrev pub records_in : List ℕ → List bytes.Step
records_in l = steps_of l (record_count l)

-- the sources that a record counts
abbrev pub counted_in : bytes.Step → List Reference
counted_in x = up_to x.count (x.s0 ∷ x.s1 ∷ x.s2 ∷ [])

-- ---- well formed

unfoldable pub good_reference : Reference → Bool
good_reference r = is_reference r.kind && leb r.prime 1

unfoldable pub good_references : List Reference → Bool
good_references [] = true
good_references (r ∷ rs) = good_reference r && good_references rs

unfoldable pub good_record : bytes.Step → Bool
good_record x = leb x.count 3 && (good_reference x.dest && good_references (counted_in x))

unfoldable pub good_records : List bytes.Step → Bool
good_records [] = true
good_records (x ∷ xs) = good_record x && good_records xs

-- no record is cut short, and each is well formed
unfoldable pub good_list : List ℕ → Bool
good_list l = eqb (length l % step_size) 0 && good_records (records_in l)
