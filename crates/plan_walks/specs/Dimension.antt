-- THE DIMENSIONS OF A SEGMENT'S LISTS BY A PLAN: the records' dimensions, the record of each cm number in "2ns" and the record numbers of q that a plan gives to
-- `set_code_dimensions`.
-- Assumes nothing: these are definitions.
use Rattle.std.specs.Prelude.{ℕ, ◌≡◌, List, [], ◌∷◌, Result}
use Rattle.std.proofs.Math.Option.{none}
use Rattle.meaning.specs.Refusals.{Answer, done, refused, ◌then◌}
use Rattle.kinds.specs.Answers.{plain_answer_of}
use Rattle.kinds.specs.declared.refusal.Refusal as kinds
use Rattle.lists.specs.Records.{good_list}
use Rattle.lent_lists.specs.Records.{good_lists}
use Rattle.step_dimensions.specs.StepDimensions.{Given}
use Rattle.step_dimensions.specs.Answers.{lent}
use Rattle.dimensions.specs.Dimensions.{dimensions}
use Rattle.dimensions.specs.Answers.{first_dim_x}
use Rattle.plans.specs.Plan.{qs}
use Rattle.plan_tables.specs.Tables.{cm2ns}
use Rattle.planning.specs.Planning.{Planned}
use Rattle.plan_walks.specs.Walks.{Walk, Walked, walked, Does, WalkIs}
use Rattle.plan_walks.specs.Standing.{Standing, planned_in, Tabled}

-- what a plan gives, with the x dimension of a pass
abbrev pub given_by : ℕ → List ℕ → Planned → Given
given_by x b z = lent z.mapping.dims (cm2ns z.mapping) (qs b) x

-- nobody is to blame in a lent list
abbrev pub unblamed : {A : Type 0} → Answer A → Answer A
unblamed (done a) = done a
unblamed (refused k o) = refused k none

abbrev pub dimension_with : Given → List (List ℕ) → Answer Walked
dimension_with g ls = unblamed (dimensions g ls) then λ ls'. done (walked 0 ls')

-- THE DIMENSIONS BY A PLAN
abbrev pub dimension_by : ℕ → List (List ℕ) → List ℕ → Planned → Answer Walked
dimension_by x ls b z = dimension_with (given_by x b z) ls

-- THE CONTRACTS: of a segment's three lists with the pass's own x dimension, and of a first list alone
abbrev pub DimensionIs : List ℕ → List ℕ → ℕ → List ℕ → List ℕ → List ℕ → List ℕ → List ℕ → List ℕ → Walk → Type 0
DimensionIs s b x first i last first' i' last' r =
    WalkIs s b (good_lists first i last) (dimension_by x (first ∷ i ∷ last ∷ []) b) (first ∷ i ∷ last ∷ []) (first' ∷ i' ∷ last' ∷ []) r

abbrev pub FirstIs : List ℕ → List ℕ → List ℕ → List ℕ → Walk → Type 0
FirstIs s b first first' r = WalkIs s b (good_list first) (dimension_by first_dim_x (first ∷ []) b) (first ∷ []) (first' ∷ []) r

-- WHAT A PASS SAYS
abbrev pub dimensioned_says : Result (Unit {0}) kinds.Refusal → Answer ℕ
dimensioned_says r = plain_answer_of r then λ _. done 0

-- ── parts ────────────────────────────────────────────────────────────────────
-- a plan whose records' sections stand in a table, with their dimensions and their number
abbrev pub DimensionAsked : List ℕ → List ℕ → List ℕ → ℕ → Type 0
DimensionAsked b ss ds n =
    (w : List ℕ) × (x : List ℕ) × (cs : List ℕ) × (z : Standing b w x cs) × Tabled z ss n × (ds ≡ (planned_in z).mapping.dims)

-- for whichever plan they are
abbrev pub DimensionGiven : List ℕ → List ℕ → List ℕ → ℕ → ℕ → List (List ℕ) → List (List ℕ) → Walk → Type 0
DimensionGiven b ss ds n d ls ls' r =
    (w x cs : List ℕ) (z : Standing b w x cs) → Tabled z ss n → ds ≡ (planned_in z).mapping.dims → Does (dimension_by d ls b (planned_in z)) ls ls' r
