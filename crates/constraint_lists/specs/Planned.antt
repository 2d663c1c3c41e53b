-- A LIST PLANNED over tables: what is asked, and what a plan says of `list_said`.
-- Assumes nothing: these are definitions.
use Rattle.std.specs.Prelude.{ℕ, ◌≤◌, ◌<◌, ◌≡◌, Bool, List, length, get_or, Result, Ok, Err}
use Rattle.meaning.specs.Refusals.{done, refused}
use Rattle.meaning.specs.Trees.{Acyclic}
use Rattle.meaning.specs.Order.{Job}
use Rattle.kinds.specs.Answers.{refusal_of, blame_of}
use Rattle.kinds.specs.declared.refusal.Refused.{Refused}
use Rattle.frames.specs.Order.{expression_limit, request_limit}
use Rattle.frames.specs.Tables.{request_in}
use Rattle.frames.specs.declared.rest.Request.{Request}
use Rattle.pool.specs.Trees.{forest}
use Rattle.starkinfo_codegen.specs.Emitting.{Rest, pool_of, RowFits}
use Rattle.starkinfo_codegen.specs.Ordering.{marks_of, World}
use Rattle.requests.specs.Making.{E}
use Rattle.context.specs.Context.{cells, Good}
use Rattle.codegen.specs.Said.{said}
use Rattle.codegen.specs.Committing.{no_words, CommitAsks, after_jobs}
use Rattle.constraint_pieces.specs.Marks.{AllBelow}
use Rattle.constraint_lists.specs.Lists.{closed_if, list_said}

-- ── requests ─────────────────────────────────────────────────────────────────
-- a request at this row, not fused
abbrev pub plain_frame : ℕ → Request
plain_frame e = record { expression = e; prime = 0; muladd = 0 }

pub record FillAsks (es r : List ℕ) : Type 0 where
  pub few : length es ≤ request_limit
  pub small : AllBelow 65536 es
  pub size : length r ≡ request_limit

abbrev pub FillGives : List ℕ → List ℕ → Type 0
FillGives es r = (k : ℕ) → k < length es → request_in r k ≡ plain_frame (get_or es k 0)

-- ── what is asked ────────────────────────────────────────────────────────────
-- an acyclic pool of m expressions in tables, a context that is good for it and a list of so many bytes, and numbers within limits
pub record ListAsks (w xs : List ℕ) (b : Rest) (A : Acyclic (forest (pool_of w b))) (ms qs x : List ℕ) (room m : ℕ) : Type 0 where
  pub world : World w xs b
  pub expressions : m ≡ b.expression_count
  pub rows : RowFits w b 1
  pub good : Good x m room
  pub marked : AllBelow expression_limit ms
  pub asked : AllBelow 65536 qs
  pub few : length qs ≤ request_limit

-- the caller's own tables of marks, words and jobs
pub record TablesAsk (s t j : List ℕ) : Type 0 where
  pub marks : length s ≡ cells
  pub words : t ≡ no_words
  pub jobs : length j ≡ cells

abbrev pub ListPlanAsked : List ℕ → List ℕ → List ℕ → List ℕ → List ℕ → List ℕ → List ℕ → List ℕ → ℕ → Type 0
ListPlanAsked w xs ms qs x s t j m = (b : Rest) × (A : Acyclic (forest (pool_of w b))) × (room : ℕ) × ListAsks w xs b A ms qs x room m × TablesAsk s t j

-- ── what is given ────────────────────────────────────────────────────────────
-- the jobs that make the list, ready to be measured and written; the tables are those after planning
pub record PlannedJobs (w xs : List ℕ) (b : Rest) (ms qs x s t j : List ℕ) (room n : ℕ) : Type 0 where
  pub jobs : List Job
  pub ready : (l : List ℕ) → length l ≡ room → CommitAsks w xs b jobs j s t x l n
  pub is : (l : List ℕ) (closes : Bool) → list_said (E w xs b) ms qs closes (said x l) ≡ done (closed_if closes (after_jobs (E w xs b) jobs (marks_of s) (said x l)))

-- WHAT A PLAN SAYS: the refusal of the list, or its jobs
abbrev pub PlanSays : List ℕ → List ℕ → Rest → List ℕ → List ℕ → List ℕ → List ℕ → List ℕ → List ℕ → ℕ → Result ℕ Refused → Type 0
PlanSays w xs b ms qs x s t j room (Ok n) = PlannedJobs w xs b ms qs x s t j room n
PlanSays w xs b ms qs x s t j room (Err f) = (l : List ℕ) (closes : Bool) → list_said (E w xs b) ms qs closes (said x l) ≡ refused (refusal_of f.refusal) (blame_of f.node)

-- for whichever rest of an acyclic pool: one is asked for, and the answer holds of all
abbrev pub ListPlanGiven : List ℕ → List ℕ → List ℕ → List ℕ → List ℕ → List ℕ → List ℕ → List ℕ → ℕ → Result ℕ Refused → Type 0
ListPlanGiven w xs ms qs x s t j m p =
    (b : Rest) (A : Acyclic (forest (pool_of w b))) (room : ℕ) → ListAsks w xs b A ms qs x room m → PlanSays w xs b ms qs x s t j room p
