-- A BUILD OF A LENT CONTEXT: the answer to a pool, a context and its list, with room for three lists; and what stands in them and in the context after it.
-- The order of refusals: 1 and 9 while reading, 1 of the context, 2, 3 and 4 of the pool, 9. Requests among the frames are read and not served.
-- Assumes nothing: these are definitions.
use Rattle.std.specs.Prelude.{ℕ, ◌*◌, ◌≤◌, ◌≡◌, Bool, ◌&&◌, cond, List, [], length, leb, Result}
use Rattle.std.proofs.Math.Option.{Option, none}
use Rattle.meaning.specs.Refusals.{Refusal, Answer, done, refused, ◌then◌}
use Rattle.meaning.specs.Trees.{Forest}
use Rattle.kinds.specs.Write.{write}
use Rattle.kinds.specs.Steps.{step_size, steps_bytes}
use Rattle.kinds.specs.Answers.{answer_of}
use Rattle.kinds.specs.declared.refusal.Refused.{Refused}
use Rattle.frames.specs.Order.{Input, expression_limit}
use Rattle.frames.specs.Reading.{reading}
use Rattle.frames.specs.declared.count.Counts.{Counts}
use Rattle.pool.specs.Pool.{Pool}
use Rattle.pool.specs.Trees.{forest}
use Rattle.pool.specs.Verdict.{Verdict}
use Rattle.pool.specs.Numbered.{pool_of}
use Rattle.starkinfo_codegen.specs.Emitting as emitting
use Rattle.starkinfo_codegen.specs.Emitting.{Rest}
use Rattle.requests.specs.Whole.{pool_in}
use Rattle.builds.specs.Raw.{RawSegment}
use Rattle.context.specs.Context.{Good, Exactly}
use Rattle.codegen.specs.Said.{Said, said, segment_said, after_said}
use Rattle.codegen.specs.Written.{context_with}
use Rattle.codegen.specs.Serving.{OrMalformed}
use Rattle.codegen.specs.declared.build.Sizes.{Sizes}

-- ── the answer ───────────────────────────────────────────────────────────────
-- the first, i and last lists, or the bytes lent for them
pub record Lists : Type 0 where
  pub first : List ℕ
  pub i : List ℕ
  pub last : List ℕ

-- each list fits
unfoldable pub fits_all : Lists → RawSegment → Bool
fits_all o s = leb (step_size * length s.first) (length o.first) && (leb (step_size * length s.i) (length o.i) && leb (step_size * length s.last) (length o.last))

-- a build of what a good context says, into lent room: 9, or the three lists
abbrev pub built_on : Forest → Lists → Said → Answer RawSegment
built_on E o st = cond (fits_all o (segment_said E st)) (done (segment_said E st)) (refused Refusal.full none)

-- a is THE ANSWER to a pool of m expressions on context x and list l
abbrev pub AnsweredBuild : Pool → ℕ → List ℕ → List ℕ → Lists → Answer RawSegment → Type 0
AnsweredBuild p m x l o a =
    (g : Bool) × Exactly g (Good x m (length l)) × OrMalformed g a ((v : Answer (Unit {0})) × Verdict p [] v × (a ≡ (v then λ _. built_on (forest p) o (said x l))))

-- where reading answers r
pub record Builds (r : Answer Input) (x l : List ℕ) (o : Lists) (a : Answer RawSegment) : Type 0 where
  pub unread : (k : Refusal) (i : Option ℕ) → r ≡ refused k i → a ≡ refused k i
  pub read : (i : Input) → r ≡ done i → AnsweredBuild (pool_of i) (length i.expressions) x l o a

-- ── what stands after it ─────────────────────────────────────────────────────
-- a list at the front of its bytes
abbrev pub lists_with : Lists → RawSegment → Lists
lists_with o s = record { first = write o.first 0 (steps_bytes s.first); i = write o.i 0 (steps_bytes s.i); last = write o.last 0 (steps_bytes s.last) }

-- blocks are gone, what is released is marked, the counter goes on; on a refusal every byte is what it was
abbrev pub StandsBuilt : Forest → Answer RawSegment → List ℕ → List ℕ → Lists → List ℕ → Lists → Type 0
StandsBuilt E (done s) x l o x' o' = (x' ≡ context_with x (after_said E (said x l))) × (o' ≡ lists_with o s)
StandsBuilt E (refused k i) x l o x' o' = (x' ≡ x) × (o' ≡ o)

-- how many steps each has
abbrev pub sizes : RawSegment → Sizes
sizes s = record { first = length s.first; i = length s.i; last = length s.last }

-- the answer to a build
abbrev pub Built : Type 0
Built = Result Sizes Refused

-- WHAT IT SAYS
abbrev pub built_says : Built → Answer Sizes
built_says r = answer_of r

pub record TellsBuilt (E : Forest) (a : Answer RawSegment) (x l : List ℕ) (o : Lists) (x' : List ℕ) (o' : Lists) (r : Built) : Type 0 where
  pub says : built_says r ≡ (a then λ s. done (sizes s))
  pub stands : StandsBuilt E a x l o x' o'

-- the forest of what was read, or of nothing
abbrev pub forest_read : Answer Input → Forest
forest_read (done i) = forest (pool_of i)
forest_read (refused k i) = []

-- THE CONTRACT
abbrev pub BuildGiven : List ℕ → List ℕ → List ℕ → List ℕ → Lists → Lists → Built → Type 0
BuildGiven s x x' l o o' r = (a : Answer RawSegment) × Builds (reading s) x l o a × TellsBuilt (forest_read (reading s)) a x l o x' o' r

abbrev pub lists : List ℕ → List ℕ → List ℕ → Lists
lists f i t = record { first = f; i = i; last = t }

-- ── of tables ────────────────────────────────────────────────────────────────
pub record BuildAsks (x l : List ℕ) (m : ℕ) : Type 0 where
  pub few : m ≤ expression_limit
  pub good : Good x m (length l)

-- for whichever nodes and literals there are to these expressions
abbrev pub ContextBuilt : List ℕ → List ℕ → List ℕ → List ℕ → ℕ → Lists → Lists → Built → Type 0
ContextBuilt e x x' l m o o' g =
    (n : List ℕ) (b : Rest) → b.expressions ≡ e → b.expression_count ≡ m →
    TellsBuilt (forest (emitting.pool_of n b)) (built_on (forest (emitting.pool_of n b)) o (said x l)) x l o x' o' g

abbrev pub ReadBuilt : List ℕ → List ℕ → List ℕ → List ℕ → List ℕ → Counts → Lists → Lists → Built → Type 0
ReadBuilt n e x x' l c o o' g =
    (ls : List ℕ) →
    (a : Answer RawSegment) × AnsweredBuild (pool_in n ls e c) c.expressions x l o a × TellsBuilt (forest (pool_in n ls e c)) a x l o x' o' g
