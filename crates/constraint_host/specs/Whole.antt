-- THE EXPORTED CONSTRAINT POLYNOMIAL, in one call: the answer is the one that `starkinfo_cp_prover` defines, told as its number, with q, the visits and the sizes.
-- Assumes nothing: these are definitions.
use Rattle.std.specs.Prelude.{ℕ, ◌≡◌, List, [], length, set}
use Rattle.meaning.specs.Refusals.{Answer, done, refused, answer_no, ◌then◌}
use Rattle.frames.specs.Order.{Input}
use Rattle.frames.specs.Reading.{reading}
use Rattle.pool.specs.Verdict.{Verdict}
use Rattle.pool.specs.Numbered.{pool_of}
use Rattle.search_meaning.specs.Search.{Choice}
use Rattle.constraint_meaning.specs.Constraint.{Asked}
use Rattle.constraint_frames.specs.Extension.{Back}
use Rattle.constraint_build.specs.Both.{Lent}
use Rattle.constraint_build.specs.declared.answer.Sizes.{Sizes}
use Rattle.starkinfo_cp_prover.specs.Polynomial.{Polynomial, question_of, Runs, Told, told_of, Stands, Accepts}
use Rattle.constraint_choice.specs.declared.answer.Before.{Before}

abbrev pub before : ℕ → ℕ → ℕ → Before
before a b c = record { commitments = c; n_cm1 = a; n_cm2 = b }

-- q and the visits, written where all was done
abbrev pub found_told : Answer Told → List ℕ → List ℕ
found_told (done t) o = set (set o 0 t.q) 1 t.visits
found_told (refused k i) o = o

-- the steps of each list, and the bytes of the frames
abbrev pub sizes_set : Sizes → ℕ → List ℕ → List ℕ
sizes_set s b o =
    set (set (set (set (set (set (set o 0 s.first) 1 s.i) 2 s.last) 3 s.first_2ns) 4 s.i_2ns) 5 s.last_2ns) 6 b

abbrev pub totals_told : Answer Told → List ℕ → List ℕ
totals_told (done t) o = sizes_set t.totals.sizes t.totals.bytes o
totals_told (refused k i) o = o

-- frames s and what is asked, on both contexts with their lists, room o, and the words w, f and z
pub record ConstraintNumbered (s : List ℕ) (a : Asked) (u v : Lent) (o w f z : List ℕ) (u' v' : Lent) (o' w' f' z' : List ℕ) (n : ℕ) : Type 0 where
  pub answer : Answer Polynomial
  pub runs : Runs (reading s) a u v (length o) answer
  pub number : n ≡ answer_no answer
  pub stands : Stands answer u v o w u' v' o' w'
  pub found : f' ≡ found_told (answer then λ y. done (told_of y)) f
  pub totals : z' ≡ totals_told (answer then λ y. done (told_of y)) z
  -- where a set is chosen and the limits and counts are kept: the pool with the constraint is admitted, stands for the extended forest, and its frames are read as it
  pub back : (i : Input) → reading s ≡ done i → Verdict (pool_of i) [] (done tt) → (x : Choice) → Accepts (pool_of i) a x → Back (pool_of i) (question_of a x)
