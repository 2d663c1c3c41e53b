-- The end of a text that was fed in pieces: the answer to the whole text, and tables from which its list can be printed.
-- Assumes nothing: these are definitions.
use Rattle.std.specs.Prelude.{ℕ, ◌≡◌, List}
use Rattle.meaning.specs.Refusals.{done}
use Rattle.meaning.specs.Building.{Segment}
use Rattle.frames.specs.Tables.{Tables}
use Rattle.frames.specs.Text.{reading_text}
use Rattle.feed.specs.Feeding.{Fed}
use Rattle.feed.specs.declared.feed.Place.{Place}
use Rattle.starkinfo_codegen.specs.Encoding.{records}
use Rattle.requests.specs.Runs.{Outcome, RunIs}
use Rattle.output.specs.Output.{list_lines}
use Rattle.output.specs.Records.{record_lines}

pub record Concluded (t : List ℕ) (l l' : List ℕ) (r : Outcome) (u : Tables) : Type 0 where
  -- THE ANSWER TO THE WHOLE TEXT, and the list after it
  pub run : RunIs (reading_text t) l l' r
  -- the records of its first list, printed from the tables, are its lines
  pub lines : (s : Segment) → run.answer ≡ done s → record_lines u.nodes u.literals (records s.first) ≡ list_lines s.first

-- of whichever text was fed
abbrev pub ConcludeGiven : List ℕ → Place → Tables → List ℕ → List ℕ → Outcome → Tables → Type 0
ConcludeGiven line p u l l' r u' = (t : List ℕ) → Fed t line p u → Concluded t l l' r u'
