-- THE QUERY CODE'S WALK BY A PLAN: the tree of each cm number that a plan gives to `fix_query_code`.
-- Assumes nothing: these are definitions.
use Rattle.std.specs.Prelude.{ℕ, ◌≡◌, List, [], ◌∷◌, take}
use Rattle.meaning.specs.Refusals.{Answer}
use Rattle.lent_lists.specs.Records.{good_lists}
use Rattle.query_fixing.specs.QueryCode.{query_verdict, queried_after}
use Rattle.plan_tables.specs.Tables.{positions, trees}
use Rattle.planning.specs.Planning.{Planned}
use Rattle.plan_walks.specs.Walks.{Walk, Walked, walked, ruled, Does, WalkIs}
use Rattle.plan_walks.specs.Standing.{Standing, planned_in, Tabled}

module _ (first i last : List ℕ) where
  -- with the trees of cm numbers
  unfoldable pub query_with : List ℕ → Answer Walked
  query_with ts =
      let after = queried_after ts first i last in
      ruled (query_verdict ts first i last) (walked 0 (after first ∷ after i ∷ after last ∷ []))

  -- THE WALK BY A PLAN
  abbrev pub query_by : Planned → Answer Walked
  query_by z = query_with (trees z.mapping)

-- THE CONTRACT
abbrev pub QueryIs : List ℕ → List ℕ → List ℕ → List ℕ → List ℕ → List ℕ → List ℕ → List ℕ → Walk → Type 0
QueryIs s b first i last first' i' last' r =
    WalkIs s b (good_lists first i last) (query_by first i last) (first ∷ i ∷ last ∷ []) (first' ∷ i' ∷ last' ∷ []) r

-- ── parts ────────────────────────────────────────────────────────────────────
-- a plan whose records stand in tables with their positions
pub record Placed {b w x cs : List ℕ} (z : Standing b w x cs) (ss ds ps : List ℕ) (n : ℕ) : Type 0 where
  pub tabled : Tabled z ss n
  pub dims_is : z.dims ≡ ds
  pub positions_are : take n ps ≡ positions (planned_in z).mapping

abbrev pub QueryAsked : List ℕ → List ℕ → List ℕ → ℕ → Type 0
QueryAsked ss ds ps n =
    (b : List ℕ) × (w : List ℕ) × (x : List ℕ) × (cs : List ℕ) × (z : Standing b w x cs) × Placed z ss ds ps n

-- for whichever plan they are
abbrev pub QueryGiven : List ℕ → List ℕ → List ℕ → ℕ → List ℕ → List ℕ → List ℕ → List ℕ → List ℕ → List ℕ → Walk → Type 0
QueryGiven ss ds ps n first i last first' i' last' r =
    (b w x cs : List ℕ) (z : Standing b w x cs) → Placed z ss ds ps n →
    Does (query_by first i last (planned_in z)) (first ∷ i ∷ last ∷ []) (first' ∷ i' ∷ last' ∷ []) r
