-- FROM BYTES TO THE ANSWER: a slice of frames or a text of them, read, admitted and served on a fresh context.
-- Assumes nothing: these are definitions.
use Rattle.std.specs.Prelude.{ℕ, ◌≡◌, List, map, length, Result}
use Rattle.std.proofs.Math.Option.{Option}
use Rattle.meaning.specs.Refusals.{Refusal, Answer, done, refused, ◌then◌}
use Rattle.meaning.specs.Generation.{Request}
use Rattle.meaning.specs.Building.{Segment}
use Rattle.kinds.specs.Answers.{answer_of}
use Rattle.kinds.specs.declared.refusal.Refused.{Refused}
use Rattle.frames.specs.Order.{Input}
use Rattle.frames.specs.Reading.{reading}
use Rattle.frames.specs.Text.{reading_text}
use Rattle.pool.specs.Numbered.{pool_of}
use Rattle.requests.specs.Planning.{request_of}
use Rattle.requests.specs.Whole.{Answers, totals, list_after}
use Rattle.requests.specs.declared.whole.Totals.{Totals}

abbrev pub requests_of : Input → List Request
requests_of i = map request_of i.requests

-- a is THE ANSWER where reading answers x, with so many bytes of room for the list: its refusal, or that of the pool and its requests
pub record Runs (x : Answer Input) (room : ℕ) (a : Answer Segment) : Type 0 where
  pub unread : (k : Refusal) (o : Option ℕ) → x ≡ refused k o → a ≡ refused k o
  pub judged : (i : Input) → x ≡ done i → Answers (pool_of i) (requests_of i) room a

-- of a slice of frames
abbrev pub BytesRun : List ℕ → ℕ → Answer Segment → Type 0
BytesRun s room a = Runs (reading s) room a

-- of a text
abbrev pub TextRun : List ℕ → ℕ → Answer Segment → Type 0
TextRun t room a = Runs (reading_text t) room a

-- the answer to a whole run
abbrev pub Outcome : Type 0
Outcome = Result Totals Refused

-- WHAT IT SAYS
abbrev pub outcome_says : Outcome → Answer Totals
outcome_says r = answer_of r

-- the answer, its totals and the list after it
pub record RunIs (x : Answer Input) (l l' : List ℕ) (r : Outcome) : Type 0 where
  pub answer : Answer Segment
  pub runs : Runs x (length l) answer
  pub says : outcome_says r ≡ (answer then λ s. done (totals s))
  pub list : l' ≡ list_after l answer

abbrev pub RunGiven : List ℕ → List ℕ → List ℕ → Outcome → Type 0
RunGiven s l l' r = RunIs (reading s) l l' r

abbrev pub TextRunGiven : List ℕ → List ℕ → List ℕ → Outcome → Type 0
TextRunGiven t l l' r = RunIs (reading_text t) l l' r
