-- A LIST MEASURED: the words of all its blocks, and whether there is room for its steps and for the three lists.
-- Assumes nothing: these are definitions.
use Rattle.std.specs.Prelude.{ℕ, zero, suc, ◌+◌, ◌≤◌, ◌<◌, ◌≡◌, Bool, true, false, cond, List, length, get_or, Option, Some, None}
use Rattle.std.proofs.Math.Option.{none}
use Rattle.meaning.specs.Refusals.{Refusal, Answer, done, refused}
use Rattle.meaning.specs.Trees.{Forest}
use Rattle.meaning.specs.Order.{Job}
use Rattle.kinds.specs.Write.{write}
use Rattle.starkinfo_codegen.specs.Emitting.{Rest}
use Rattle.starkinfo_codegen.specs.Ordering.{marks_of}
use Rattle.requests.specs.Making.{E}
use Rattle.requests.specs.Placing.{block_words}
use Rattle.builds.specs.Raw.{RawSegment, steps_in, start_of, raw_blocks, raw_segment, flagged_in}
use Rattle.builds.specs.Numbered.{BlocksAsk}
use Rattle.context.specs.Context.{blocks_in}
use Rattle.codegen.specs.Said.{Said, said, segment_said}
use Rattle.codegen.specs.Committing.{CommitAsks, after_jobs}
use Rattle.codegen.specs.Building.{Lists, fits_all, sizes}
use Rattle.codegen.specs.declared.build.Sizes.{Sizes}
use Rattle.constraint_pieces.specs.Closed.{grown}
use Rattle.constraint_lists.specs.Lists.{closed_if, room_for}

-- ── the closing product in words ─────────────────────────────────────────────
-- n blocks: where there is one, the last has a step more
abbrev pub closed_words : Bool → List ℕ → ℕ → List ℕ
closed_words true t zero = t
closed_words true t (suc k) = grown t k
closed_words false t n = t

abbrev pub closed_more : Bool → ℕ → ℕ
closed_more true zero = 0
closed_more true (suc k) = 1
closed_more false n = 0

pub record CloseWordsAsks (t : List ℕ) (n : ℕ) : Type 0 where
  pub few : n ≤ 1024
  pub steps : (k : ℕ) → k < n → steps_in (get_or t k 0) ≤ 65535

-- the words of all blocks: those that stand, those of the jobs, and the last closed
abbrev pub final_words : Forest → List Job → Bool → List ℕ → List ℕ → ℕ → List ℕ
final_words F js closes t x n = closed_words closes (write t (blocks_in x) (block_words F js)) (blocks_in x + n)

-- what is said before the build
abbrev pub final_said : Forest → List Job → Bool → List ℕ → List ℕ → List ℕ → Said
final_said F js closes s x l = closed_if closes (after_jobs F js (marks_of s) (said x l))

-- how many steps each list has, or that there is no room
abbrev pub Measured : Type 0
Measured = Option Sizes

-- WHAT IT SAYS
abbrev pub measured_says : Measured → Answer Sizes
measured_says None = refused Refusal.full none
measured_says (Some z) = done z

-- ── the three lists ──────────────────────────────────────────────────────────
pub record RoomsAsk (t : List ℕ) (n m steps : ℕ) : Type 0 where
  pub blocks : BlocksAsk t n m
  pub all : start_of t n ≡ steps

abbrev pub segment_in : List ℕ → List ℕ → List ℕ → ℕ → ℕ → RawSegment
segment_in e t l n m = raw_segment (flagged_in e m) (raw_blocks t l n)

-- whatever the list
abbrev pub RoomsGiven : List ℕ → List ℕ → Lists → ℕ → ℕ → Measured → Type 0
RoomsGiven e t o n m r =
    (l : List ℕ) → measured_says r ≡ cond (fits_all o (segment_in e t l n m)) (done (sizes (segment_in e t l n m))) (refused Refusal.full none)

-- ── the whole ────────────────────────────────────────────────────────────────
-- jobs that were planned, in a pool of m expressions
pub record MeasureAsks (w xs : List ℕ) (b : Rest) (js : List Job) (j s t x l : List ℕ) (m n : ℕ) : Type 0 where
  pub commit : CommitAsks w xs b js j s t x l n
  pub expressions : m ≡ b.expression_count

abbrev pub MeasureAsked : List ℕ → List ℕ → List ℕ → List ℕ → List ℕ → List ℕ → ℕ → ℕ → Type 0
MeasureAsked w xs j t x l m n = (b : Rest) × (js : List Job) × (s : List ℕ) × MeasureAsks w xs b js j s t x l m n

-- where there is room, the words of all blocks
abbrev pub WordsAre : Measured → List ℕ → List ℕ → Type 0
WordsAre None t f = Unit {0}
WordsAre (Some z) t f = t ≡ f

-- THE SIZES OF THE THREE LISTS, or 9
pub record Measures (F : Forest) (js : List Job) (closes : Bool) (s t t' x l : List ℕ) (o : Lists) (n : ℕ) (r : Measured) : Type 0 where
  pub words : WordsAre r t' (final_words F js closes t x n)
  pub says :
      measured_says r
      ≡ cond (room_for F (length l) o (final_said F js closes s x l)) (done (sizes (segment_said F (final_said F js closes s x l)))) (refused Refusal.full none)

abbrev pub MeasureGiven : List ℕ → List ℕ → List ℕ → List ℕ → List ℕ → List ℕ → List ℕ → Lists → ℕ → ℕ → Bool → Measured → Type 0
MeasureGiven w xs j t t' x l o m n closes r =
    (b : Rest) (js : List Job) (s : List ℕ) → MeasureAsks w xs b js j s t x l m n → Measures (E w xs b) js closes s t t' x l o n r
