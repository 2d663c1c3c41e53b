-- THE WHOLE RUN: the answer to a pool and its requests on a fresh context, and what stands in the lent list after it.
-- Assumes nothing: these are definitions.
use Rattle.std.specs.Prelude.{ℕ, ◌*◌, ◌<◌, ◌≤◌, ◌≡◌, ◌&&◌, cond, List, [], length, leb, ltb, Result}
use Rattle.std.proofs.Math.Option.{none}
use Rattle.meaning.specs.Refusals.{Refusal, Answer, done, refused, ◌then◌}
use Rattle.meaning.specs.Trees.{Forest, Acyclic}
use Rattle.meaning.specs.Generation.{Request}
use Rattle.meaning.specs.Building as meaning
use Rattle.kinds.specs.Write.{write}
use Rattle.kinds.specs.Steps.{step_size}
use Rattle.kinds.specs.Answers.{answer_of}
use Rattle.kinds.specs.declared.refusal.Refused.{Refused}
use Rattle.frames.specs.Order.{request_limit}
use Rattle.frames.specs.Tables.{next_in, request_in}
use Rattle.frames.specs.declared.count.Counts.{Counts}
use Rattle.pool.specs.Pool.{Pool}
use Rattle.pool.specs.Trees.{forest}
use Rattle.pool.specs.Verdict.{Verdict}
use Rattle.pool.specs.Ranking.{Tabling}
use Rattle.pool.specs.Tabled.{tabled}
use Rattle.starkinfo_codegen.specs.Encoding.{encoded}
use Rattle.starkinfo_codegen.specs.Emitting.{Rest, pool_of, RowFits}
use Rattle.starkinfo_codegen.specs.Ordering.{World}
use Rattle.requests.specs.Planning.{requests_in}
use Rattle.requests.specs.Generating.{number_limit}
use Rattle.requests.specs.declared.whole.Totals.{Totals}

-- ── the answer ───────────────────────────────────────────────────────────────
-- 9, last: the list or its counter does not fit
abbrev pub fitting : ℕ → meaning.Segment → Answer meaning.Segment
fitting room s = cond (leb (step_size * length s.first) room && ltb s.counter number_limit) (done s) (refused Refusal.full none)

-- requests of a pool that is admitted, with so many bytes of room
abbrev pub served : Forest → List Request → ℕ → Answer meaning.Segment
served E qs room = meaning.whole 2 E qs then fitting room

-- THE ANSWER to a pool and its requests: 2, 3 or 4 of the pool; 3 or 5 of a request; 9; or the segment
abbrev pub Answers : Pool → List Request → ℕ → Answer meaning.Segment → Type 0
Answers p qs room a = (v : Answer (Unit {0})) × Verdict p [] v × (a ≡ (v then λ _. served (forest p) qs room))

-- ── what the code answers ────────────────────────────────────────────────────
abbrev pub totals : meaning.Segment → Totals
totals s = record { steps = length s.first; counter = s.counter }

-- WHAT A WHOLE RUN SAYS
abbrev pub whole_says : Result Totals Refused → Answer Totals
whole_says r = answer_of r

-- the lent list after an answer: its first list at the front, or what it was
abbrev pub list_after : List ℕ → Answer meaning.Segment → List ℕ
list_after l (done s) = write l 0 (encoded s.first)
list_after l (refused k o) = l

-- the totals and the list of an answer
pub record Tells (a : Answer meaning.Segment) (l l' : List ℕ) (r : Result Totals Refused) : Type 0 where
  pub says : whole_says r ≡ (a then λ s. done (totals s))
  pub list : l' ≡ list_after l a

-- ── of tables ────────────────────────────────────────────────────────────────
pub record FreshAsks (w x : List ℕ) (b : Rest) (A : Acyclic (forest (pool_of w b))) (r : List ℕ) (m count : ℕ) : Type 0 where
  pub world : World w x b
  pub expressions : m ≡ b.expression_count
  pub few : count ≤ request_limit
  pub in_rows : (k : ℕ) → k < count → (request_in r k).prime < 2
  pub rows : RowFits w b 1

abbrev pub FreshAsked : List ℕ → List ℕ → List ℕ → ℕ → ℕ → Type 0
FreshAsked w x r m count = (b : Rest) × (A : Acyclic (forest (pool_of w b))) × FreshAsks w x b A r m count

abbrev pub FreshGiven : List ℕ → List ℕ → List ℕ → List ℕ → List ℕ → ℕ → ℕ → Result Totals Refused → Type 0
FreshGiven w x r l l' m count g =
    (b : Rest) (A : Acyclic (forest (pool_of w b))) → FreshAsks w x b A r m count → Tells (served (forest (pool_of w b)) (requests_in r count) (length l)) l l' g

-- what was read is within the limits, and its next and prime bytes are 0 or 1
pub record WholeAsked (w x r : List ℕ) (c : Counts) : Type 0 where
  pub nodes : c.nodes ≤ 4096
  pub expressions : c.expressions ≤ 512
  pub requests : c.requests ≤ request_limit
  pub next : (n : ℕ) → n < c.nodes → next_in w n ≤ 1
  pub prime : (k : ℕ) → k < c.requests → (request_in r k).prime ≤ 1

-- for whichever literals
abbrev pub pool_in : List ℕ → List ℕ → List ℕ → Counts → Pool
pool_in w literals x c = tabled (Tabling w literals x c.nodes c.expressions)

abbrev pub WholeGiven : List ℕ → List ℕ → List ℕ → List ℕ → List ℕ → Counts → Result Totals Refused → Type 0
WholeGiven w x r l l' c g =
    (literals : List ℕ) → (a : Answer meaning.Segment) × Answers (pool_in w literals x c) (requests_in r c.requests) (length l) a × Tells a l l' g
