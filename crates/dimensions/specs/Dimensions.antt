-- THE DIMENSIONS OF A SEGMENT'S LISTS: document 01, "Sections, dimensions, fixing", over the records of lists that a caller lends.
-- Assumes nothing: these are definitions.
use Rattle.std.specs.Prelude.{ℕ, Bool, true, cond, ◌&&◌, List, [], ◌∷◌}
use Rattle.std.proofs.Math.Option.{none}
use Rattle.kinds.specs.Steps.{steps_bytes}
use Rattle.kinds.specs.declared.step.Step.{Step}
use Rattle.meaning.specs.Refusals.{Refusal, Answer, done, refused, ◌then◌}
use Rattle.lists.specs.Records.{records_in, good_list}
use Rattle.step_dimensions.specs.StepDimensions.{Given, step_with, noted, unwritten}

-- ---- lists

-- the records with their dimensions, and the temporaries after them
pub record Passed : Type 0 where
  pub records : List Step
  pub temporaries : List ℕ

module _ (g : Given) where
  unfoldable pub passed : List ℕ → List Step → Answer Passed
  passed ts [] = done (record { records = []; temporaries = ts })
  passed ts (s ∷ ss) =
      step_with g ts s then λ s'.
      passed (noted ts s') ss then λ p.
      done (record { records = s' ∷ p.records; temporaries = p.temporaries })

  -- lists one after the other, as bytes: what a temporary has lasts from one to the next
  unfoldable pub passed_lists : List ℕ → List (List ℕ) → Answer (List (List ℕ))
  passed_lists ts [] = done []
  passed_lists ts (l ∷ ls) =
      passed ts (records_in l) then λ p. passed_lists p.temporaries ls then λ ls'. done (steps_bytes p.records ∷ ls')

unfoldable pub good_lists : List (List ℕ) → Bool
good_lists [] = true
good_lists (l ∷ ls) = good_list l && good_lists ls

-- THE LISTS OF A SEGMENT WITH THEIR DIMENSIONS. A malformed record of any list is refused (1) before anything else
unfoldable pub dimensions : Given → List (List ℕ) → Answer (List (List ℕ))
dimensions g ls = cond (good_lists ls) (passed_lists g unwritten ls) (refused Refusal.malformed none)
