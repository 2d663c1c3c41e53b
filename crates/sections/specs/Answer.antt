-- WHAT map_section GIVES: its answer and the lent numbers after it are those of `mapping`.
-- Assumes nothing: these are definitions.
use Rattle.std.specs.Prelude.{ℕ, ◌≡◌, List, length, Result}
use Rattle.meaning.specs.Refusals.{Answer, done, refused, answer_no}
use Rattle.kinds.specs.Answers.{plain_answer_of}
use Rattle.kinds.specs.declared.refusal.Refusal.{Refusal}
use Rattle.sections.specs.Sections.{Mapping, mapping, positions_from, widths}

-- THE NUMBER OF map_section's ANSWER: document 01's, and 0 where it is done
abbrev pub mapped_no : Result Unit Refusal → ℕ
mapped_no r = answer_no (plain_answer_of r)

-- what is lent is written where it is done, and else as it was
abbrev pub positions_after : List ℕ → Answer Mapping → List ℕ
positions_after ps (done m) = m.positions
positions_after ps (refused r n) = ps

abbrev pub widths_after : List ℕ → Answer Mapping → List ℕ
widths_after ws (done m) = m.widths
widths_after ws (refused r n) = ws

-- where nothing is refused
pub record Written (ss ds ps ps' ws' : List ℕ) : Type 0 where
  pub positions : ps' ≡ positions_from ss ds ps
  pub widths : ws' ≡ widths ss ds

pub record MappedIs (ss ds ps ps' ws ws' : List ℕ) (r : Result Unit Refusal) : Type 0 where
  pub says : mapped_no r ≡ answer_no (mapping ss ds ps (length ws))
  pub positions : ps' ≡ positions_after ps (mapping ss ds ps (length ws))
  pub widths : ws' ≡ widths_after ws (mapping ss ds ps (length ws))
