-- DIMENSIONS BY A PLAN, exactly when: 3 and 12 beside the plan's own, and 10. The first step that is refused decides, in the words of the dimension pass
-- (`StepsRefused`), by the records, the cm and the q numbers of the plan.
-- Assumes nothing.
use Rattle.std.specs.Prelude.{ℕ, ◌≡◌, refl, Bool, true, List, [], ◌∷◌, ◌⊎◌, ◌↔◌}
use Rattle.std.proofs.Common.{sym, ◌∙◌, arith}
use Rattle.meaning.specs.Refusals.{Refusal, Answer, done, refused, answer_no, ◌then◌}
use Rattle.frames.specs.Reading.{reading}
use Rattle.lists.specs.Records.{good_list}
use Rattle.lent_lists.specs.Records as segment
use Rattle.step_dimensions.specs.StepDimensions.{Given, unwritten}
use Rattle.dimensions.specs.Dimensions.{good_lists, dimensions}
use Rattle.dimensions.specs.Answers.{first_dim_x}
use Rattle.dimensions.specs.Conditions.{StepsRefused, all_records}
use Rattle.dimensions.specs.Exactly.{exactly_3, exactly_10, exactly_12}
use Rattle.planning.specs.Planning.{Planned, Plans}
use Rattle.planning.specs.Ways.{Way}
use Rattle.plan_walks.specs.Walks.{Walk, walked, walk_says, WalkIs}
use Rattle.plan_walks.specs.Dimension.{given_by, unblamed, dimension_with, dimension_by, DimensionIs, FirstIs}
use Rattle.plan_exactly.specs.Numbers.{Drawn, walk_refused, walk-alone, no-way_10}

-- nothing is malformed, and the first step of the lists that is refused is refused so
pub record PassRefused (g : Given) (ls : List (List ℕ)) (w : Refusal) : Type 0 where
  pub well_formed : good_lists ls ≡ true
  pub met : StepsRefused g w unwritten (all_records ls)

number_so : (g : Given) (ls : List (List ℕ)) → answer_no (dimension_with g ls) ≡ answer_no (dimensions g ls)
number_so g ls = by (dimensions g ls)
  where
    by : (a : Answer (List (List ℕ))) → answer_no (unblamed a then λ ls'. done (walked 0 ls')) ≡ answer_no a
    by (done x) = refl
    by (refused k o) = refl

module _ (s b : List ℕ) (own : Bool) (x : ℕ) (ls : List (List ℕ)) where
  abbrev Meets : Refusal → Type 0
  Meets w = Drawn s b own (λ z. PassRefused (given_by x b z) ls w)

  by-plan :
      (n : ℕ) (w : Refusal) → ((g : Given) → (answer_no (dimensions g ls) ≡ n) ↔ ((good_lists ls ≡ true) × StepsRefused g w unwritten (all_records ls))) →
      (z : Planned) → Plans b own (reading s) (done z) → (answer_no (dimension_by x ls b z) ≡ n) ↔ PassRefused (given_by x b z) ls w
  by-plan n w is z p =
      let e = is (given_by x b z) in
      let q = number_so (given_by x b z) ls in
      (λ h. let c = e.0 (sym q ∙ h) in record { well_formed = c.0; met = c.1 }, λ c. q ∙ e.1 (c.well_formed, c.met))

  module _ {ls' : List (List ℕ)} {r : Walk} (h : WalkIs s b own (dimension_by x ls b) ls ls' r) where
    walk_3 : (answer_no (walk_says r) ≡ 3) ↔ (Way b own (reading s) 3 ⊎ Meets Refusal.not_there)
    walk_3 = walk_refused h 3 (λ z. PassRefused (given_by x b z) ls Refusal.not_there) (by-plan 3 Refusal.not_there (λ g. exactly_3 g ls)) (λ e. omega (arith, e))

    walk_12 : (answer_no (walk_says r) ≡ 12) ↔ (Way b own (reading s) 12 ⊎ Meets Refusal.no_dimension)
    walk_12 = walk_refused h 12 (λ z. PassRefused (given_by x b z) ls Refusal.no_dimension) (by-plan 12 Refusal.no_dimension (λ g. exactly_12 g ls)) (λ e. omega (arith, e))

    walk_10 : (answer_no (walk_says r) ≡ 10) ↔ Meets Refusal.no_rule
    walk_10 = walk-alone h 10 (λ z. PassRefused (given_by x b z) ls Refusal.no_rule) (by-plan 10 Refusal.no_rule (λ g. exactly_10 g ls)) (λ e. omega (arith, e)) (no-way_10 b own s)

-- ---- of a segment's lists

module _ (s b : List ℕ) (x : ℕ) (first i last : List ℕ) {first' i' last' : List ℕ} {r : Walk} (h : DimensionIs s b x first i last first' i' last' r) where
  abbrev own : Bool
  own = segment.good_lists first i last

  abbrev ls : List (List ℕ)
  ls = first ∷ i ∷ last ∷ []

  -- 3: THE PLAN'S, or a cm or q number that is looked up and not there is the first fault of the lists
  pub dimension_3 : (answer_no (walk_says r) ≡ 3) ↔ (Way b own (reading s) 3 ⊎ Drawn s b own (λ z. PassRefused (given_by x b z) ls Refusal.not_there))
  dimension_3 = walk_3 s b own x ls h

  -- 12: THE PLAN'S, or a source of dimension 0 is the first fault of the lists
  pub dimension_12 : (answer_no (walk_says r) ≡ 12) ↔ (Way b own (reading s) 12 ⊎ Drawn s b own (λ z. PassRefused (given_by x b z) ls Refusal.no_dimension))
  dimension_12 = walk_12 s b own x ls h

  -- 10: an unwritten temporary, or a kind or a step without a rule, is the first fault of the lists
  pub dimension_10 : (answer_no (walk_says r) ≡ 10) ↔ Drawn s b own (λ z. PassRefused (given_by x b z) ls Refusal.no_rule)
  dimension_10 = walk_10 s b own x ls h

-- ---- of a first list alone

module _ (s b first : List ℕ) {first' : List ℕ} {r : Walk} (h : FirstIs s b first first' r) where
  abbrev own_first : Bool
  own_first = good_list first

  pub first_3 : (answer_no (walk_says r) ≡ 3) ↔ (Way b own_first (reading s) 3 ⊎ Drawn s b own_first (λ z. PassRefused (given_by first_dim_x b z) (first ∷ []) Refusal.not_there))
  first_3 = walk_3 s b own_first first_dim_x (first ∷ []) h

  pub first_12 : (answer_no (walk_says r) ≡ 12) ↔ (Way b own_first (reading s) 12 ⊎ Drawn s b own_first (λ z. PassRefused (given_by first_dim_x b z) (first ∷ []) Refusal.no_dimension))
  first_12 = walk_12 s b own_first first_dim_x (first ∷ []) h

  pub first_10 : (answer_no (walk_says r) ≡ 10) ↔ Drawn s b own_first (λ z. PassRefused (given_by first_dim_x b z) (first ∷ []) Refusal.no_rule)
  first_10 = walk_10 s b own_first first_dim_x (first ∷ []) h
