-- THE EXPORTED WHOLE RUN: the answer is the one that `requests` defines, told as its number, with the first list and its totals.
-- Assumes nothing: these are definitions.
use Rattle.std.specs.Prelude.{ℕ, ◌≡◌, List, length, set}
use Rattle.meaning.specs.Refusals.{Answer, done, refused, answer_no, ◌then◌}
use Rattle.meaning.specs.Building.{Segment}
use Rattle.requests.specs.Whole.{totals, list_after}
use Rattle.requests.specs.declared.whole.Totals.{Totals}
use Rattle.requests.specs.Runs.{BytesRun}

-- two totals written where the run was done
abbrev pub totals_told : Answer Totals → List ℕ → List ℕ
totals_told (done t) o = set (set o 0 t.steps) 1 t.counter
totals_told (refused k i) o = o

-- a run of frames s into list l, whose totals are told in z
abbrev pub RunNumbered : List ℕ → List ℕ → List ℕ → List ℕ → List ℕ → ℕ → Type 0
RunNumbered s l l' z z' n =
    (a : Answer Segment) × BytesRun s (length l) a × (n ≡ answer_no a) × (l' ≡ list_after l a) × (z' ≡ totals_told (a then λ g. done (totals g)) z)
