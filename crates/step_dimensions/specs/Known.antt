-- THE DIMENSIONS OF A STEP'S SOURCES as they are read from its record in a list of bytes: 0 for one that is refused.
-- Assumes nothing: these are definitions.
use Rattle.std.specs.Prelude.{ℕ, zero, suc, max, ◌+◌, ◌*◌, ◌<◌, ◌≡◌, cond, List, set, eqb, Option, Some, None}
use Rattle.kinds.specs.KindBytes as kind
use Rattle.kinds.specs.Write.{write}
use Rattle.kinds.specs.BigEndian.{u16_bytes}
use Rattle.kinds.specs.References.{ref_at}
use Rattle.kinds.specs.Steps.{step_at, step_bytes}
use Rattle.kinds.specs.declared.reference.Reference.{Reference}
use Rattle.kinds.specs.declared.step.Step.{Step}
use Rattle.meaning.specs.Refusals.{Answer, done, refused}
use Rattle.step_dimensions.specs.StepDimensions.{Given, source_dim, sized, step_with, noted}

abbrev pub dim_of : Answer ℕ → ℕ
dim_of (done d) = d
dim_of (refused r n) = 0

-- a source's, where it is not refused
abbrev pub known : Answer ℕ → Option ℕ
known (done d) = Some d
known (refused r n) = None

-- where the dimension of a destination is noted
abbrev pub noted_at : List ℕ → Reference → ℕ → List ℕ
noted_at ts r d = cond (eqb r.kind kind.tmp) (set ts r.id d) ts

module _ (g : Given) (ts : List ℕ) where
  abbrev pub known_dim : Reference → ℕ
  known_dim r = dim_of (source_dim g ts r)

  module _ (l : List ℕ) (at : ℕ) where
    -- of source k
    abbrev pub known_at : ℕ → ℕ
    known_at k = known_dim (ref_at l (at + 16 + 12 * k))

    -- the largest of the first n
    unfoldable pub most_of : ℕ → ℕ
    most_of zero = 0
    most_of (suc k) = max (most_of k) (known_at k)

    -- each of the first n has one
    unfoldable pub AllKnown : ℕ → Type 0
    AllKnown n = (k : ℕ) → k < n → source_dim g ts (ref_at l (at + 16 + 12 * k)) ≡ done (known_at k)

    -- the largest of sources that all have one
    abbrev pub MostIs : ℕ → Option ℕ → Type 0
    MostIs n r = (d : ℕ) → r ≡ Some d → AllKnown n × (d ≡ most_of n)

    -- the record with the dimensions of the first n written
    unfoldable pub put_dims : ℕ → List ℕ
    put_dims zero = l
    put_dims (suc k) = write (put_dims k) (at + 20 + 12 * k) (u16_bytes (known_dim (ref_at (put_dims k) (at + 16 + 12 * k))))

    -- and the largest of those
    unfoldable pub most_put : ℕ → ℕ
    most_put zero = 0
    most_put (suc k) = max (most_put k) (known_dim (ref_at (put_dims k) (at + 16 + 12 * k)))

  -- a step has its dimensions, the destination's is d
  pub record Sizes (s : Step) (d : ℕ) : Type 0 where
    pub step : Step
    pub is : step_with g ts s ≡ done step
    pub dest : step.dest ≡ sized s.dest d

  -- the destination's dimension
  abbrev pub StepDimIs : Step → Option ℕ → Type 0
  StepDimIs s r = (d : ℕ) → r ≡ Some d → Sizes s d

  -- where the record at this place has its dimensions, it is written with them, and its destination noted
  pub record DimsWritten (l l' ts' : List ℕ) (at : ℕ) (s : Step) : Type 0 where
    pub bytes : l' ≡ write l at (step_bytes s)
    pub temporaries : ts' ≡ noted ts s

  abbrev pub WritesDims : List ℕ → List ℕ → List ℕ → ℕ → Type 0
  WritesDims l l' ts' at = (s : Step) → step_with g ts (step_at l at) ≡ done s → DimsWritten l l' ts' at s
