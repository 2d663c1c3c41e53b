-- THE TWO LISTS OF THE CONSTRAINT POLYNOMIAL over what a context's bytes say, in the words of the definition's `step3` and `step42ns`: what is said before the
-- build, whether there is room, and what stands after it.
-- Assumes nothing: these are definitions.
use Rattle.std.specs.Prelude.{ℕ, ◌≡◌, Bool, true, false, ◌&&◌, List, [], ◌∷◌}
use Rattle.meaning.specs.Refusals.{Answer, done, ◌then◌}
use Rattle.meaning.specs.Trees.{Forest}
use Rattle.builds.specs.Raw.{RawBlock}
use Rattle.codegen.specs.Said.{Said, serve_said, segment_said, after_said}
use Rattle.codegen.specs.Written.{step_count, context_with, ListWith, fits}
use Rattle.codegen.specs.Building.{Lists, fits_all, lists_with}
use Rattle.constraint_meaning.specs.Constraint.{plain_requests}
use Rattle.constraint_pieces.specs.Closed.{raw_close_last}
use Rattle.constraint_pieces.specs.Marking.{marked_said}

-- ── what is said before the build ────────────────────────────────────────────
-- with the closing product, or without
abbrev pub closed_blocks : Bool → List RawBlock → List RawBlock
closed_blocks true bs = raw_close_last bs
closed_blocks false bs = bs

abbrev pub closed_if : Bool → Said → Said
closed_if closes st = record { marks = st.marks; blocks = closed_blocks closes st.blocks; counter = st.counter }

-- A LIST: some are marked, others asked for at this row, unfused, and the last block may be closed
abbrev pub list_said : Forest → List ℕ → List ℕ → Bool → Said → Answer Said
list_said E marked asked closes st = serve_said E (plain_requests asked) (marked_said marked st) then λ st'. done (closed_if closes st')

abbrev pub step3_said : Forest → List ℕ → Said → Answer Said
step3_said E members st = list_said E [] members false st

abbrev pub step42ns_said : Forest → List ℕ → ℕ → Said → Answer Said
step42ns_said E members c st = list_said E members (c ∷ []) true st

-- ── room ─────────────────────────────────────────────────────────────────────
-- for the steps of the context's list, of so many bytes, and of the three lists
abbrev pub room_for : Forest → ℕ → Lists → Said → Bool
room_for E room o st = fits room (step_count st) st.counter && fits_all o (segment_said E st)

-- ── what stands after it ─────────────────────────────────────────────────────
-- the context after the build, its list with all steps that were built from, and the three lists
pub record Written (E : Forest) (x l : List ℕ) (o : Lists) (st : Said) (x' l' : List ℕ) (o' : Lists) : Type 0 where
  pub context : x' ≡ context_with x (after_said E st)
  pub list : ListWith l st l'
  pub built : o' ≡ lists_with o (segment_said E st)
