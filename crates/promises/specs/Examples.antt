-- THE EXAMPLES OF DOCUMENT 01 THAT ARE MARKED P, in one table that one statement proves of the definitions: the two runs and three lists of generation, positions and widths of
-- sections, searches; and with them, though not marked, the dimension pass. The rows themselves stand in the files of each definition.
-- Assumes nothing.
use Rattle.std.specs.Prelude.{◌≡◌, List, [], ◌∷◌, ◌++◌}
use Rattle.meaning.specs.Refusals.{done, ◌then◌}
use Rattle.meaning.specs.Trees.{Each}
use Rattle.meaning.proofs.Laws.Tests.{each-join}
use Rattle.meaning.specs.Examples as generation
use Rattle.sections.specs.Examples as sections
use Rattle.step_dimensions.specs.StepDimensions.{Given, unwritten}
use Rattle.dimensions.specs.Dimensions.{passed}
use Rattle.dimensions.specs.Examples as dimensions
use Rattle.search_meaning.specs.SearchExamples as search

-- ── the table ────────────────────────────────────────────────────────────────
pub data Row : Type 0 where
  generated : generation.Example → Row
  placed : sections.Example → Row
  sized : dimensions.Example → Row
  searched : search.Example → Row

abbrev rows : {A : Type 0} → (A → Row) → List A → List Row
rows f [] = []
rows f (x ∷ xs) = f x ∷ rows f xs

abbrev generations : List Row
generations = rows Row.generated generation.table

abbrev placings : List Row
placings = rows Row.placed sections.table

abbrev sizings : List Row
sizings = rows Row.sized dimensions.table

abbrev searches : List Row
searches = rows Row.searched search.table

abbrev pub table : List Row
table = generations ++ (placings ++ (sizings ++ searches))

-- ── the statement ────────────────────────────────────────────────────────────
-- records of dimensions 1, 3, 2; columns 0 and 1 at records 0 and 1; quotient 0 at record 2; x dimension 3
abbrev pub given : Given
given = record { record_dims = 1 ∷ 3 ∷ 2 ∷ []; cm2ns = 0 ∷ 1 ∷ 7 ∷ []; qs = 2 ∷ []; dim_x = 3 }

-- a row is right where the definition gives what the row says
abbrev pub Right : Row → Type 0
Right (Row.generated x) = generation.Right x
Right (Row.placed x) = sections.Right x
Right (Row.sized x) = (passed given unwritten x.steps then λ p. done p.records) ≡ x.answer
Right (Row.searched x) = search.Right x

all-rows : {A : Type 0} (f : A → Row) (l : List A) → Each (λ x. Right (f x)) l → Each Right (rows f l)
all-rows f [] h = tt
all-rows f (x ∷ xs) h = (h.0, all-rows f xs h.1)

-- EVERY ROW IS RIGHT
pub examples : Each Right table
examples =
    each-join Right generations (placings ++ (sizings ++ searches)) (all-rows Row.generated generation.table generation.examples)
    (each-join Right placings (sizings ++ searches) (all-rows Row.placed sections.table sections.examples)
    (each-join Right sizings searches (all-rows Row.sized dimensions.table dimensions.examples) (all-rows Row.searched search.table search.examples)))
