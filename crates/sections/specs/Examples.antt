-- Document 01's examples of sections that are marked P, with one where dimensions have no place, as rows of a table that one statement proves.
-- Assumes nothing.
use Rattle.std.specs.Prelude.{ℕ, ◌≡◌, refl, List, [], ◌∷◌, length, replicate}
use Rattle.kinds.specs.Range.{within}
use Rattle.meaning.specs.Trees.{Each}
use Rattle.sections.specs.Sections.{placed, positions_from, position_of, first_width, whole_width, third_width}

-- records of one section, each at the same old position: their dimensions, then their positions and the section's widths
pub record Example : Type 0 where
  pub dims : List ℕ
  pub old : ℕ
  pub positions : List ℕ
  pub N1 : ℕ
  pub N : ℕ
  pub N3 : ℕ

abbrev in_one : Example → List ℕ
in_one x = replicate (length x.dims) 0

pub record Right (x : Example) : Type 0 where
  pub positions : positions_from (in_one x) x.dims (replicate (length x.dims) x.old) ≡ x.positions
  pub N1 : first_width (in_one x) x.dims 0 ≡ x.N1
  pub N : whole_width (in_one x) x.dims 0 ≡ x.N
  pub N3 : third_width (in_one x) x.dims 0 ≡ x.N3

abbrev pub table : List Example
table =
    record { dims = 3 ∷ 1 ∷ 2 ∷ 1 ∷ []; old = 0; positions = 4 ∷ 0 ∷ 2 ∷ 1 ∷ []; N1 = 2; N = 7; N3 = 1 }
    ∷ record { dims = 2 ∷ []; old = 0; positions = 0 ∷ []; N1 = 0; N = 2; N3 = 0 }
    ∷ record { dims = []; old = 0; positions = []; N1 = 0; N = 0; N3 = 0 }
    ∷ record { dims = 0 ∷ 4 ∷ 2 ∷ 1 ∷ []; old = 77; positions = 77 ∷ 77 ∷ 1 ∷ 0 ∷ []; N1 = 1; N = 3; N3 = 0 }
    ∷ []

abbrev right : (x : Example)
    → positions_from (in_one x) x.dims (replicate (length x.dims) x.old) ≡ x.positions
    → first_width (in_one x) x.dims 0 ≡ x.N1
    → whole_width (in_one x) x.dims 0 ≡ x.N
    → third_width (in_one x) x.dims 0 ≡ x.N3
    → Right x
right x p a b c = record { positions = p; N1 = a; N = b; N3 = c }

-- THE EXAMPLES MARKED P
pub examples : Each Right table
unfolding position_of first_width whole_width third_width placed within
examples = (right _ refl refl refl refl, (right _ refl refl refl refl, (right _ refl refl refl refl, (right _ refl refl refl refl, tt))))
