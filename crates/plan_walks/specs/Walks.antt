-- A WALK OVER A SEGMENT'S LISTS BY A PLAN: what is answered to frames, a plan's record and the lists, and what the lists hold after it.
-- Assumes nothing: these are definitions.
use Rattle.std.specs.Prelude.{ℕ, ◌≡◌, Bool, ◌&&◌, List, leb, Result}
use Rattle.std.proofs.Math.Option.{none}
use Rattle.meaning.specs.Refusals.{Refusal, Answer, done, refused, ◌then◌}
use Rattle.kinds.specs.Answers.{answer_of}
use Rattle.kinds.specs.declared.refusal.Refused.{Refused}
use Rattle.frames.specs.Reading.{reading}
use Rattle.lent_lists.specs.Verdicts.{Verdict, fine, malformed, not_there, no_rule, full}
use Rattle.lent_lists.specs.Records.{good_lists}
use Rattle.fixing.specs.ProverCode.{last_counter}
use Rattle.planning.specs.Planning.{Planned, Goes}

-- the domains are 0, "n", and 1, "2ns"
abbrev pub last_domain : ℕ
last_domain = 1

-- 1 OF A SEGMENT: an unknown domain, a counter that has no number of 16 bits, or a malformed record
unfoldable pub good_segment : ℕ → ℕ → List ℕ → List ℕ → List ℕ → Bool
good_segment domain counter first i last = leb domain last_domain && (leb counter last_counter && good_lists first i last)

-- the counter after a walk, 0 where it has none, and its lists
pub record Walked : Type 0 where
  pub counter : ℕ
  pub lists : List (List ℕ)

abbrev pub walked : ℕ → List (List ℕ) → Walked
walked n ls = record { counter = n; lists = ls }

-- what a verdict answers
abbrev pub ruled : {A : Type 0} → Verdict → A → Answer A
ruled fine a = done a
ruled malformed a = refused Refusal.malformed none
ruled not_there a = refused Refusal.not_there none
ruled no_rule a = refused Refusal.no_rule none
ruled full a = refused Refusal.full none

-- ── what the code answers ────────────────────────────────────────────────────
-- the counter, 0 where a walk has none, or document 01's refusal
abbrev pub Walk : Type 0
Walk = Result ℕ Refused

-- WHAT IT SAYS
abbrev pub walk_says : Walk → Answer ℕ
walk_says r = answer_of r

-- lent lists after an answer: as they were on a refusal
abbrev pub lists_after : List (List ℕ) → Answer Walked → List (List ℕ)
lists_after ls (done w) = w.lists
lists_after ls (refused k o) = ls

-- an answer told, and the lists after it
pub record Does (a : Answer Walked) (ls ls' : List (List ℕ)) (r : Walk) : Type 0 where
  pub says : walk_says r ≡ (a then λ w. done w.counter)
  pub lists : ls' ≡ lists_after ls a

-- THE CONTRACT of a walk that goes on with what is planned
pub record WalkIs (s b : List ℕ) (own : Bool) (what : Planned → Answer Walked) (ls ls' : List (List ℕ)) (r : Walk) : Type 0 where
  pub answer : Answer Walked
  pub goes : Goes b own what (reading s) answer
  pub does : Does answer ls ls' r
