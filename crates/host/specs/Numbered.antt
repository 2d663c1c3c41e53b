-- THE EXPORTED FUNCTIONS: the answer to a call is the one that `codegen` or `evaluator` defines, told as its number.
-- Assumes nothing: these are definitions.
use Rattle.std.specs.Prelude.{ℕ, ◌≡◌, cond, List, length, set, eqb}
use Rattle.meaning.specs.Refusals.{Refusal, Answer, done, refused, answer_no, number, ◌then◌}
use Rattle.frames.specs.Reading.{reading}
use Rattle.builds.specs.Raw.{RawSegment}
use Rattle.context.specs.Context.{context_size}
use Rattle.context.specs.Tables.{fresh_bytes}
use Rattle.codegen.specs.Said.{Said}
use Rattle.codegen.specs.Written.{Stands}
use Rattle.codegen.specs.Serving.{Serves}
use Rattle.codegen.specs.Building.{Lists, Builds, StandsBuilt, sizes, forest_read}
use Rattle.codegen.specs.declared.build.Sizes.{Sizes}
use Rattle.codegen.specs.declared.asked.Wanted.{Wanted}
use Rattle.evaluator_run.specs.Evaluation.{Valued, out_after}
use Rattle.evaluator.specs.Answer.{Evaluates}

-- a fresh context, or the refusal of a size that is not a context's
pub record FreshNumbered (x x' : List ℕ) (n : ℕ) : Type 0 where
  pub number : n ≡ cond (eqb (length x) context_size) 0 (number Refusal.malformed)
  pub bytes : x' ≡ cond (eqb (length x) context_size) (fresh_bytes context_size) x

abbrev pub wanted : ℕ → ℕ → Wanted
wanted k i = record { kind = k; id = i }

-- requests, served on context x and list l
abbrev pub ServeNumbered : List ℕ → Wanted → List ℕ → List ℕ → List ℕ → List ℕ → ℕ → Type 0
ServeNumbered s w x x' l l' n = (a : Answer Said) × Serves (reading s) w x l a × (n ≡ answer_no a) × Stands a x l x' l'

-- three sizes written where the build was done
abbrev pub sizes_told : Answer Sizes → List ℕ → List ℕ
sizes_told (done z) o = set (set (set o 0 z.first) 1 z.i) 2 z.last
sizes_told (refused k i) o = o

-- a build of context x and list l into the lists o, whose sizes are told in z
abbrev pub BuildNumbered : List ℕ → List ℕ → List ℕ → List ℕ → Lists → Lists → List ℕ → List ℕ → ℕ → Type 0
BuildNumbered s x x' l o o' z z' n =
    (a : Answer RawSegment) × Builds (reading s) x l o a × (n ≡ answer_no a) × StandsBuilt (forest_read (reading s)) a x l o x' o' ×
    (z' ≡ sizes_told (a then λ g. done (sizes g)) z)

-- the number of cells written where the evaluation was done
abbrev pub cells_told : Answer ℕ → List ℕ → List ℕ
cells_told (done n) o = set o 0 n
cells_told (refused k i) o = o

-- an evaluation of a list modulo m from the words ws into the bytes o, whose cells are counted in z
abbrev pub EvaluateNumbered : List ℕ → List ℕ → ℕ → List ℕ → List ℕ → List ℕ → List ℕ → List ℕ → ℕ → Type 0
EvaluateNumbered s list m ws o o' z z' n =
    (a : Answer (List Valued)) × Evaluates list m ws (length o) (reading s) a × (n ≡ answer_no a) × (o' ≡ out_after o a) ×
    (z' ≡ cells_told (a then λ vs. done (length vs)) z)
