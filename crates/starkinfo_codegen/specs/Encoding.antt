-- What the bytes of a list mean: the record of each reference and of each step.
-- Assumes nothing.
use Rattle.std.specs.Prelude.{ℕ, zero, suc, ◌*◌, ◌≡◌, refl, List, [], ◌∷◌, ◌++◌, length}
use Rattle.std.proofs.Common.{◌∙◌, ap}
use Rattle.kinds.specs.References.{plain_ref, number_ref, blank_ref}
use Rattle.kinds.specs.Steps.{step_size, steps_bytes, step_bytes, steps-bytes-append, steps-bytes-none, steps-bytes-length, steps-bytes-one}
use Rattle.kinds.specs.declared.reference.Reference.{Reference}
use Rattle.kinds.specs.declared.step.Step as bytes
use Rattle.meaning.specs.Steps.{kind_no, Cell, Ref, step_no, Step}

-- a cell: its kind, its row as the prime, its id; a number: the node that brought it
abbrev pub ref_of : Ref → Reference
ref_of (Ref.var (Cell.cell k i r)) = plain_ref (kind_no k) r i
ref_of (Ref.number l n) = number_ref n

-- the k-th source, or none
abbrev pub source_of : List Ref → ℕ → Reference
source_of [] k = blank_ref
source_of (r ∷ rs) zero = ref_of r
source_of (r ∷ rs) (suc k) = source_of rs k

-- the origin of a step that no node is known for
abbrev pub no_origin : ℕ
no_origin = 0xffff

abbrev pub step_record : Step → bytes.Step
step_record s =
    record {
      op = step_no s.op;
      count = length s.sources;
      origin = no_origin;
      dest = ref_of s.destination;
      s0 = source_of s.sources 0;
      s1 = source_of s.sources 1;
      s2 = source_of s.sources 2;
    }

unfoldable pub records : List Step → List bytes.Step
records [] = []
records (s ∷ ss) = step_record s ∷ records ss

-- THE BYTES OF A LIST of steps
unfoldable pub encoded : List Step → List ℕ
encoded ss = steps_bytes (records ss)

pub records-append : (xs ys : List Step) → records (xs ++ ys) ≡ records xs ++ records ys
unfolding records
records-append [] ys = refl
records-append (x ∷ xs) ys = ap (λ (l : List bytes.Step). step_record x ∷ l) (records-append xs ys)

pub records-length : (xs : List Step) → length (records xs) ≡ length xs
unfolding records
records-length [] = refl
records-length (x ∷ xs) = ap suc (records-length xs)

pub encoded-append : (xs ys : List Step) → encoded (xs ++ ys) ≡ encoded xs ++ encoded ys
unfolding encoded
encoded-append xs ys = ap steps_bytes (records-append xs ys) ∙ steps-bytes-append (records xs) (records ys)

pub encoded-length : (xs : List Step) → length (encoded xs) ≡ step_size * length xs
unfolding encoded
encoded-length xs = steps-bytes-length (records xs) ∙ ap (λ n. step_size * n) (records-length xs)

pub encoded-none : encoded [] ≡ []
unfolding encoded records
encoded-none = steps-bytes-none

pub encoded-one : (s : Step) → encoded (s ∷ []) ≡ step_bytes (step_record s)
unfolding encoded records
encoded-one s = steps-bytes-one (step_record s)
