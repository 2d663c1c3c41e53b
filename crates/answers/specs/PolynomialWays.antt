-- THE ROWS OF THE REFUSAL TABLE for the constraint polynomial in one call, in the order of the checks; as in `Ways.antt`. `ExactPolynomial.antt` proves that a call has a number exactly
-- when one of that number's ways is open.
-- Assumes nothing: these are definitions.
use Rattle.std.specs.Prelude.{ℕ, ◌+◌, ◌<◌, ◌≤◌, ◌≡◌, Bool, true, false, List, [], ◌∷◌, length}
use Rattle.std.proofs.Math.Option.{some}
use Rattle.meaning.specs.Refusals.{Answer, done}
use Rattle.meaning.specs.Trees.{Forest, Acyclic}
use Rattle.meaning.specs.Conditions.{Refused5, FirstRefused}
use Rattle.frames.specs.Order.{Input}
use Rattle.pool.specs.Pool.{Pool}
use Rattle.pool.specs.Trees.{forest}
use Rattle.pool.specs.Numbered.{pool_of}
use Rattle.context.specs.Context.{Good}
use Rattle.codegen.specs.Said.{Said, said}
use Rattle.codegen.specs.Shadows.{shadow}
use Rattle.search_meaning.specs.Search.{Choice, search}
use Rattle.search_meaning.proofs.SearchCases.{Row}
use Rattle.constraint_meaning.specs.Constraint.{Asked, plain_requests}
use Rattle.constraint_pieces.specs.Marking.{marked_said}
use Rattle.constraint_frames.specs.Extension.{pool_with}
use Rattle.constraint_lists.specs.Lists.{step3_said, step42ns_said}
use Rattle.constraint_build.specs.Both.{Lent, room_both}
use Rattle.starkinfo_cp_prover.specs.Polynomial.{asked, question_of}
use Rattle.constraint_choice.specs.declared.answer.Before.{Before}
use Rattle.answers.specs.Ways.{OfFrames, OfPool}
use Rattle.answers.specs.ConstraintWays.{within_limits}

-- some expressions are marked in a context, others asked for in it, at this row and for no result: one that is asked for, after those before it, reads a row that is not there
abbrev pub DoublePrimed : Forest → List ℕ → List ℕ → Lent → Type 0
DoublePrimed E marked wanted u = FirstRefused 2 E (Refused5 2 E) (plain_requests wanted) (shadow (marked_said marked (said u.context u.list)))

module _ (ids : List ℕ) (vc b e limit : ℕ) (c : Before) (u v : Lent) (room : ℕ) (i : Input) where
  abbrev pub question : Asked
  question = asked ids vc b e limit c

  -- ── with a set that was chosen ─────────────────────────────────────────────
  module _ (x : Choice) where
    abbrev pub constraint_pool : Pool
    constraint_pool = pool_with (pool_of i) (question_of question x)

    -- what each context says before it is built from
    abbrev pub first : Answer Said
    first = step3_said (forest constraint_pool) x.set (said u.context u.list)

    abbrev pub second : Answer Said
    second = step42ns_said (forest constraint_pool) x.set (length i.expressions) (said v.context v.list)

    -- room for the steps of both contexts' lists, the six lists and the frames
    abbrev pub roomy : Said → Said → Bool
    roomy s t = room_both constraint_pool (record { step3 = s; step42ns = t }) u v room

    pub data Listed : ℕ → Type 0 where
      -- 5 of a member, in the first context
      member : DoublePrimed (forest constraint_pool) [] x.set u → Listed 5
      -- 5 of the constraint, in the second, where the members are marked
      constraint : (s : Said) → first ≡ done s → DoublePrimed (forest constraint_pool) x.set (length i.expressions ∷ []) v → Listed 5
      full : (s t : Said) → first ≡ done s → second ≡ done t → roomy s t ≡ false → Listed 9
      made : (s t : Said) → first ≡ done s → second ≡ done t → roomy s t ≡ true → Listed 0

    -- the pool with the constraint is within its limits
    abbrev pub limited : Bool
    limited = within_limits (question_of question x) room i

    pub data Chosen : ℕ → Type 0 where
      past : limited ≡ false → Chosen 9
      counts : limited ≡ true → c.commitments < c.n_cm1 + c.n_cm2 → Chosen 11
      kept : {k : ℕ} → limited ≡ true → c.n_cm1 + c.n_cm2 ≤ c.commitments → Listed k → Chosen k

  -- ── a pool ─────────────────────────────────────────────────────────────────
  pub data Generated (acyclic : Acyclic (forest (pool_of i))) : ℕ → Type 0 where
    -- why no set is chosen: 17, 16, 3, 15, 6, 13 and 14, the rows of search_meaning/proofs/SearchCases.antt
    unchosen : {k : ℕ} → (k ≡ 0 → ⊥) → Row (forest (pool_of i)) acyclic ids vc b e limit k → Generated acyclic k
    chosen : {k : ℕ} (x : Choice) → search (forest (pool_of i)) ids vc b e (some limit) ≡ done x → Chosen x k → Generated acyclic k

  pub data ConstraintRead : ℕ → Type 0 where
    bad_context : (Good u.context (length i.expressions) (length u.list) → ⊥) → ConstraintRead 1
    bad_second : Good u.context (length i.expressions) (length u.list) → (Good v.context (length i.expressions) (length v.list) → ⊥) → ConstraintRead 1
    good : {k : ℕ} →
        Good u.context (length i.expressions) (length u.list) → Good v.context (length i.expressions) (length v.list) → OfPool (pool_of i) Generated k →
        ConstraintRead k

-- ── enonkasse_constraint ─────────────────────────────────────────────────────
abbrev pub ConstraintWay : List ℕ → List ℕ → ℕ → ℕ → ℕ → ℕ → Before → Lent → Lent → ℕ → ℕ → Type 0
ConstraintWay s ids vc b e limit c u v room k = OfFrames s (ConstraintRead ids vc b e limit c u v room) k
