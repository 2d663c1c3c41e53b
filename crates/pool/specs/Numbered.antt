-- The number that what was read gets, and that of a slice of frames and of a text.
-- Assumes nothing: these are definitions.
use Rattle.std.specs.Prelude.{Result, ℕ, ◌≡◌, List, []}
use Rattle.std.proofs.Math.Option.{Option}
use Rattle.meaning.specs.Refusals.{Refusal, number, Answer, done, refused, answer_no}
use Rattle.kinds.specs.Answers.{answer_of}
use Rattle.kinds.specs.declared.refusal.Refused.{Refused}
use Rattle.frames.specs.Order.{Input, nothing}
use Rattle.frames.specs.Tables as frames
use Rattle.frames.specs.Reading.{read_from, reading, held}
use Rattle.frames.specs.declared.count.Counts.{Counts}
use Rattle.frames.specs.Text.{reading_text}
use Rattle.pool.specs.Pool.{Pool}
use Rattle.pool.specs.Verdict.{Verdict}

-- the pool of what was read; requests are no part of it
abbrev pub pool_of : Input → Pool
pool_of i = record { nodes = i.nodes; expressions = i.expressions }

-- r is the number where reading answers x: its refusal's, or the verdict's on the pool
pub record NumberedBy (x : Answer Input) (r : ℕ) : Type 0 where
  pub unread : (k : Refusal) (b : Option ℕ) → x ≡ refused k b → r ≡ number k
  pub judged : (i : Input) → x ≡ done i → (a : Answer (Unit {0})) × Verdict (pool_of i) [] a × (r ≡ answer_no a)

-- what was read of some frames stands in the tables
pub record Answered (u : frames.Tables) (r : Result Counts Refused) (x : Answer Input) : Type 0 where
  pub given : List (List ℕ)
  pub read : x ≡ read_from nothing given
  pub answer : held u r ≡ x

-- the pool that was read: for whichever literals and requests, and whatever was read
abbrev pub VerdictAsked : List ℕ → List ℕ → Result Counts Refused → Type 0
VerdictAsked w e r = (l : List ℕ) × (q : List ℕ) × (x : Answer Input) × Answered (frames.tables w l e q) r x

abbrev pub VerdictGiven : List ℕ → List ℕ → Result Counts Refused → Result (List ℕ) Refused → Type 0
VerdictGiven w e r v = (l q : List ℕ) (x : Answer Input) → Answered (frames.tables w l e q) r x → NumberedBy x (answer_no (answer_of v))

-- of a slice of frames
abbrev pub Numbered : List ℕ → ℕ → Type 0
Numbered s r = NumberedBy (reading s) r

-- of a text
abbrev pub NumberedText : List ℕ → ℕ → Type 0
NumberedText t r = NumberedBy (reading_text t) r
