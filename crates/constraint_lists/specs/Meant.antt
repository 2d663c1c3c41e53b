-- THE TWO LISTS ARE THE DEFINITION'S: where a context's bytes say a context of `meaning`, the list that is built, and what is said after it, are those of `step3`
-- and of `step42ns`.
-- Assumes nothing.
use Rattle.std.specs.Prelude.{ℕ, ◌≡◌, refl, Bool, true, false, ◌||◌, List, [], ◌∷◌}
use Rattle.std.proofs.Common.{◌∙◌, ap}
use Rattle.std.proofs.Math.Path.{fun_ext}
use Rattle.meaning.specs.Refusals.{Answer, done, refused, ◌then◌}
use Rattle.meaning.specs.Trees.{Forest}
use Rattle.meaning.specs.Order.{Marks}
use Rattle.meaning.specs.Generation.{State, serve, serve_all}
use Rattle.meaning.specs.Holding.{mapped}
use Rattle.builds.specs.Raw.{RawSegment}
use Rattle.builds.specs.RawOf.{raw_lists}
use Rattle.codegen.specs.Said.{Said, said_of, serve_said, segment_said, after_said, serve-said, segment-said}
use Rattle.constraint_meaning.specs.Constraint.{Built, built_from, plain_request, plain_requests, step3, marked, closing, step42ns}
use Rattle.constraint_pieces.specs.Closed.{closed_said_lem}
use Rattle.constraint_pieces.specs.Marking.{marked_said}
use Rattle.constraint_lists.specs.Lists.{closed_if, step3_said, step42ns_said}

-- a list that was built, and what is said after it
pub record SaidBuilt : Type 0 where
  pub segment : RawSegment
  pub context : Said

abbrev pub built_said : Forest → Said → SaidBuilt
built_said E st = record { segment = segment_said E st; context = after_said E st }

-- the definition's, its steps as records
abbrev pub raw_built : Built → SaidBuilt
raw_built b = record { segment = raw_lists b.segment; context = said_of b.context }

module _ (E : Forest) where
  built_of : (st : State) → built_said E (said_of st) ≡ raw_built (built_from 2 E st)
  built_of st = ap (λ (s : RawSegment). record { segment = s; context = said_of (built_from 2 E st).context }) (segment-said E st)

  none-marked : (st : Said) → marked_said [] st ≡ st
  none-marked st =
      ap (λ (m : Marks). record { marks = m; blocks = st.blocks; counter = st.counter }) (fun_ext (λ e. fun_ext (λ r. or-false (st.marks e r))))
    where
      or-false : (b : Bool) → (b || false) ≡ b
      or-false true = refl
      or-false false = refl

  -- ── before the build ───────────────────────────────────────────────────────
  pub step3-is : (members : List ℕ) (st : State) → step3_said E members (said_of st) ≡ mapped said_of (serve_all 2 E (plain_requests members) st)
  step3-is members st =
      ap (λ (s : Said). serve_said E (plain_requests members) s then λ u. done (closed_if false u)) (none-marked (said_of st))
      ∙ ap (λ (z : Answer Said). z then λ u. done (closed_if false u)) (serve-said E (plain_requests members) st)
      ∙ go (serve_all 2 E (plain_requests members) st)
    where
      go : (z : Answer State) → (mapped said_of z then λ u. done (closed_if false u)) ≡ mapped said_of z
      go (done s) = refl
      go (refused k o) = refl

  pub step42ns-is :
      (members : List ℕ) (c : ℕ) (st : State) →
      step42ns_said E members c (said_of st) ≡ mapped (λ u. said_of (closing u)) (serve 2 E (plain_request c) (marked 2 members st))
  step42ns-is members c st =
      ap (λ (z : Answer Said). z then λ u. done (closed_if true u)) (serve-said E (plain_requests (c ∷ [])) (marked 2 members st))
      ∙ go (serve 2 E (plain_request c) (marked 2 members st))
    where
      go : (z : Answer State) → (mapped said_of (z then λ s. done s) then λ u. done (closed_if true u)) ≡ mapped (λ u. said_of (closing u)) z
      go (done s) = ap done (closed_said_lem s)
      go (refused k o) = refl

  -- ── with it ────────────────────────────────────────────────────────────────
  built-all : (f : State → State) (z : Answer State) → (mapped (λ u. said_of (f u)) z then λ u. done (built_said E u)) ≡ mapped raw_built (z then λ u. done (built_from 2 E (f u)))
  built-all f (done s) = ap done (built_of (f s))
  built-all f (refused k o) = refl

  -- STEP3
  pub step3-said : (members : List ℕ) (st : State) → (step3_said E members (said_of st) then λ s. done (built_said E s)) ≡ mapped raw_built (step3 2 E members st)
  step3-said members st =
      ap (λ (z : Answer Said). z then λ u. done (built_said E u)) (step3-is members st) ∙ built-all (λ u. u) (serve_all 2 E (plain_requests members) st)

  -- STEP42NS
  pub step42ns-said :
      (members : List ℕ) (c : ℕ) (st : State) → (step42ns_said E members c (said_of st) then λ s. done (built_said E s)) ≡ mapped raw_built (step42ns 2 E members c st)
  step42ns-said members c st =
      ap (λ (z : Answer Said). z then λ u. done (built_said E u)) (step42ns-is members c st) ∙ built-all closing (serve 2 E (plain_request c) (marked 2 members st))
