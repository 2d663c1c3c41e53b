-- WHAT `map` ANSWERS to frames, a plan's record and a lent room for bytes, and what the room holds after it.
-- Assumes nothing: these are definitions.
use Rattle.std.specs.Prelude.{ℕ, ◌≡◌, true, cond, List, ◌++◌, length, drop, leb, Result}
use Rattle.std.proofs.Math.Option.{none}
use Rattle.meaning.specs.Refusals.{Refusal, Answer, done, refused, ◌then◌}
use Rattle.kinds.specs.Answers.{answer_of}
use Rattle.kinds.specs.declared.refusal.Refused.{Refused}
use Rattle.frames.specs.Reading.{reading}
use Rattle.pool.specs.Pool.{Pool}
use Rattle.map_records.specs.Mapping.{mapped}
use Rattle.planning.specs.Planning.{Planned, planned, Goes}
use Rattle.planning.specs.Drawn.{Drawn}
use Rattle.planning.specs.declared.answer.Plan.{Plan}
use Rattle.plan_map.specs.Numbers.{map_bytes}

-- THE BYTES OF A PLAN, or 9 where there is no room for all of them
unfoldable pub map_by : List ℕ → ℕ → Planned → Answer (List ℕ)
map_by b room z = cond (leb (length (map_bytes b z)) room) (done (map_bytes b z)) (refused Refusal.full none)

-- how many bytes, or document 01's refusal
abbrev pub Mapping : Type 0
Mapping = Result ℕ Refused

-- WHAT IT SAYS
abbrev pub map_says : Mapping → Answer ℕ
map_says r = answer_of r

-- the lent room after an answer: the bytes at its front; as it was on a refusal
abbrev pub out_after : List ℕ → Answer (List ℕ) → List ℕ
out_after out (done bytes) = bytes ++ drop (length bytes) out
out_after out (refused k o) = out

-- an answer told, and the room after it
pub record Does (a : Answer (List ℕ)) (out out' : List ℕ) (r : Mapping) : Type 0 where
  pub says : map_says r ≡ (a then λ bytes. done (length bytes))
  pub room : out' ≡ out_after out a

-- THE CONTRACT: there is no argument besides the plan's record that could be malformed
pub record MapIs (s b out out' : List ℕ) (r : Mapping) : Type 0 where
  pub answer : Answer (List ℕ)
  pub goes : Goes b true (map_by b (length out)) (reading s) answer
  pub does : Does answer out out' r

-- ── of a plan that is drawn up ───────────────────────────────────────────────
abbrev pub PlannedAsked : List ℕ → List ℕ → List ℕ → List ℕ → Plan → Type 0
PlannedAsked b ss ds cs k = (p : Pool) × Drawn b p ss ds cs k

-- for whichever pool it is
abbrev pub PlannedGiven : List ℕ → List ℕ → List ℕ → List ℕ → Plan → List ℕ → List ℕ → Mapping → Type 0
PlannedGiven b ss ds cs k out out' r = (p : Pool) → Drawn b p ss ds cs k → Does (map_by b (length out) (planned p (mapped b p))) out out' r
