-- WHAT THE ANSWERS SAY of a pass and of the entry points, as answers of meaning, with document 01's number.
-- Assumes nothing: these are definitions.
use Rattle.std.specs.Prelude.{ℕ, ◌*◌, ◌≡◌, List, Result}
use Rattle.std.proofs.Math.Option.{Option, none, some}
use Rattle.kinds.specs.Answers as code
use Rattle.kinds.specs.declared.refusal.Refusal as codes
use Rattle.kinds.specs.Write.{write}
use Rattle.kinds.specs.Steps.{step_size, step_at, step_bytes, steps_of, steps_bytes}
use Rattle.kinds.specs.declared.step.Step.{Step}
use Rattle.meaning.specs.Refusals.{Refusal, Answer, done, refused, answer_no, ◌then◌}
use Rattle.lists.specs.Records.{record_count}
use Rattle.step_dimensions.specs.StepDimensions.{Given, step_with, noted}
use Rattle.dimensions.specs.Dimensions.{Passed, passed, passed_lists, dimensions}

-- ---- a pass that decides: the temporaries after it, which a refusal leaves open

abbrev pub decided_says : Result Unit codes.Refusal → List ℕ → Answer (List ℕ)
decided_says r ts = code.plain_answer_of r then λ t. done ts

abbrev pub step_to : Given → List ℕ → Step → Answer (List ℕ)
step_to g ts s = step_with g ts s then λ s'. done (noted ts s')

abbrev pub list_to : Given → List ℕ → List Step → Answer (List ℕ)
list_to g ts ss = passed g ts ss then λ p. done p.temporaries

-- ---- a pass that writes what was decided

pub record StepWritten (ts ts' l l' : List ℕ) (k : ℕ) (s : Step) : Type 0 where
  pub bytes : l' ≡ write l (step_size * k) (step_bytes s)
  pub temporaries : ts' ≡ noted ts s

abbrev pub WritesStep : Given → List ℕ → List ℕ → List ℕ → List ℕ → ℕ → Type 0
WritesStep g ts ts' l l' k = (s : Step) → step_with g ts (step_at l (step_size * k)) ≡ done s → StepWritten ts ts' l l' k s

pub record ListWritten (ts' l l' : List ℕ) (p : Passed) : Type 0 where
  pub bytes : l' ≡ write l 0 (steps_bytes p.records)
  pub temporaries : ts' ≡ p.temporaries

-- the records of a front
abbrev pub WritesFront : Given → List ℕ → List ℕ → List ℕ → List ℕ → ℕ → Type 0
WritesFront g ts ts' l l' k = (p : Passed) → passed g ts (steps_of l k) ≡ done p → ListWritten ts' l l' p

abbrev pub WritesList : Given → List ℕ → List ℕ → List ℕ → List ℕ → Type 0
WritesList g ts ts' l l' = WritesFront g ts ts' l l' (record_count l)

-- ---- the lists of a segment

abbrev pub refusal_of : {A : Type 0} → Answer A → Option Refusal
refusal_of (done a) = none
refusal_of (refused r n) = some r

abbrev pub decided_refusal : Result Unit codes.Refusal → Option Refusal
decided_refusal r = refusal_of (code.plain_answer_of r)

-- where they have their dimensions
abbrev pub WritesLists : Given → List ℕ → List (List ℕ) → List (List ℕ) → Type 0
WritesLists g ts ls ls' = (xs : List (List ℕ)) → passed_lists g ts ls ≡ done xs → ls' ≡ xs

-- ---- the entry points

-- the x dimension of a first list alone
abbrev pub first_dim_x : ℕ
first_dim_x = 3

-- THE NUMBER OF set_code_dimensions' ANSWER: document 01's, and 0 where it is done
abbrev pub dimensioned_no : Result Unit codes.Refusal → ℕ
dimensioned_no r = answer_no (code.plain_answer_of r)

-- the lists are written where it is done, and else as they were
abbrev pub lists_after : List (List ℕ) → Answer (List (List ℕ)) → List (List ℕ)
lists_after ls (done ls') = ls'
lists_after ls (refused r n) = ls

-- WHAT set_code_dimensions GIVES: its answer and the lent lists after it are those of `dimensions`
pub record DimensionedIs (g : Given) (ls ls' : List (List ℕ)) (r : Result Unit codes.Refusal) : Type 0 where
  pub says : dimensioned_no r ≡ answer_no (dimensions g ls)
  pub lists : ls' ≡ lists_after ls (dimensions g ls)
