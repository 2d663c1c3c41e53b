-- THE EXPORTED WALKS BY A PLAN: the answer is the one that `plan_walks` defines, told as its number; the lists and the counter after it.
-- Assumes nothing: these are definitions.
use Rattle.std.specs.Prelude.{ℕ, ◌≡◌, Bool, List, [], ◌∷◌, get_or}
use Rattle.lists.specs.Records.{good_list}
use Rattle.lent_lists.specs.Records.{good_lists}
use Rattle.dimensions.specs.Answers.{first_dim_x}
use Rattle.meaning.specs.Refusals.{Answer, done, answer_no, ◌then◌}
use Rattle.frames.specs.Reading.{reading}
use Rattle.planning.specs.Planning.{Planned, Goes}
use Rattle.planning.specs.Answers.{Unplanned, unplanned_says}
use Rattle.plan_walks.specs.Walks.{Walked, good_segment, lists_after}
use Rattle.plan_walks.specs.Fix.{is_n, fix_by}
use Rattle.plan_walks.specs.Query.{query_by}
use Rattle.plan_walks.specs.Dimension.{dimension_by}
use Rattle.host.specs.Numbered.{cells_told}

-- a reason for no plan, whatever was to be answered
abbrev pub unplanned_as : Unplanned → Answer ℕ
unplanned_as u = unplanned_says u

-- a walk over lists
abbrev pub WalkNumbered : List ℕ → List ℕ → Bool → (Planned → Answer Walked) → List (List ℕ) → List (List ℕ) → ℕ → Type 0
WalkNumbered s b own what ls ls' n = (a : Answer Walked) × Goes b own what (reading s) a × (n ≡ answer_no a) × (ls' ≡ lists_after ls a)

-- the query code's walk: frames s, plan b, the three lists before and after, the number
abbrev pub QueryNumbered : List ℕ → List ℕ → List ℕ → List ℕ → List ℕ → List ℕ → List ℕ → List ℕ → ℕ → Type 0
QueryNumbered s b first i last first' i' last' n =
    WalkNumbered s b (good_lists first i last) (query_by first i last) (first ∷ i ∷ last ∷ []) (first' ∷ i' ∷ last' ∷ []) n

-- dimensions, with the x dimension d
abbrev pub DimensionNumbered : List ℕ → List ℕ → ℕ → List ℕ → List ℕ → List ℕ → List ℕ → List ℕ → List ℕ → ℕ → Type 0
DimensionNumbered s b d first i last first' i' last' n =
    WalkNumbered s b (good_lists first i last) (dimension_by d (first ∷ i ∷ last ∷ []) b) (first ∷ i ∷ last ∷ []) (first' ∷ i' ∷ last' ∷ []) n

-- of a first list alone
abbrev pub FirstNumbered : List ℕ → List ℕ → List ℕ → List ℕ → ℕ → Type 0
FirstNumbered s b first first' n = WalkNumbered s b (good_list first) (dimension_by first_dim_x (first ∷ []) b) (first ∷ []) (first' ∷ []) n

-- fixing, which counts temporaries
abbrev pub WalkCounted : List ℕ → List ℕ → ℕ → List ℕ → List ℕ → List ℕ → List ℕ → List ℕ → List ℕ → List ℕ → List ℕ → ℕ → Type 0
WalkCounted s b domain z z' first i last first' i' last' n =
    (a : Answer Walked) × Goes b (good_segment domain (get_or z 0 0) first i last) (fix_by (get_or z 0 0) first i last (is_n domain) b) (reading s) a × (n ≡ answer_no a) ×
    (first' ∷ i' ∷ last' ∷ [] ≡ lists_after (first ∷ i ∷ last ∷ []) a) × (z' ≡ cells_told (a then λ w. done w.counter) z)
