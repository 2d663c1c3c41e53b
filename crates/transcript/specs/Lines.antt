-- The lines of an answer, by number: a line for each step and the counter's, or a refusal's alone.
-- Assumes nothing: these are definitions.
use Rattle.std.specs.Prelude.{ℕ, zero, suc, ◌+◌, ◌*◌, ◌<◌, ◌≤◌, cond, List, [], ◌++◌, eqb, ltb}
use Rattle.meaning.specs.Refusals.{Answer, done, refused, number}
use Rattle.kinds.specs.Steps.{step_size, step_at}
use Rattle.requests.specs.declared.whole.Totals.{Totals}
use Rattle.output.specs.Output.{counter_line, refusal_line}
use Rattle.output.specs.Records.{record_line}
use Rattle.transcript.specs.declared.lines.Shown.{Shown}

abbrev pub refused_with : ℕ → Shown
refused_with n = record { refusal = n; steps = 0; counter = 0 }

-- what is shown of an answer: 0 where it is done, else the refusal's number
abbrev pub shown_of : Answer Totals → Shown
shown_of (done t) = record { refusal = 0; steps = t.steps; counter = t.counter }
shown_of (refused k o) = refused_with (number k)

-- a refusal has no steps, and one line
abbrev pub line_count : Shown → ℕ
line_count s = s.steps + 1

-- line k
unfoldable pub line_no : List ℕ → List ℕ → List ℕ → Shown → ℕ → List ℕ
line_no nodes literals list s k =
    cond (eqb s.refusal 0)
    (cond (ltb k s.steps) (record_line nodes literals (step_at list (step_size * k))) (counter_line s.counter))
    (refusal_line s.refusal)

-- the first n lines, one after the other
abbrev pub all_lines : (ℕ → List ℕ) → ℕ → List ℕ
all_lines f zero = []
all_lines f (suc n) = all_lines f n ++ f n

-- the steps that are shown stand in the list, and the counter is a number of 16 bits
pub record LineAsked (s : Shown) (room : ℕ) : Type 0 where
  pub steps : step_size * s.steps ≤ room
  pub counter : s.counter < 65536
