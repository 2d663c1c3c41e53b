-- Requests planned over tables: the jobs that they ask for, or the refusal, as `ask_all` says.
-- Assumes nothing: these are definitions.
use Rattle.std.specs.Prelude.{ℕ, ◌+◌, ◌<◌, ◌≤◌, ◌≡◌, List, length, eqb, ⊤, Result, Ok, Err}
use Rattle.std.proofs.Math.Option.{none}
use Rattle.meaning.specs.Refusals.{Answer, done, refused}
use Rattle.meaning.specs.Trees.{Acyclic}
use Rattle.meaning.specs.Order.{Job, Asked}
use Rattle.meaning.specs.Generation as meaning
use Rattle.meaning.specs.Asking.{ask_one, ask_all}
use Rattle.kinds.specs.Write.{write}
use Rattle.kinds.specs.Answers.{refusal_of, blame_of}
use Rattle.kinds.specs.declared.refusal.Refusal.{Refusal}
use Rattle.kinds.specs.declared.refusal.Refusal.TheVariants as refusal
use Rattle.kinds.specs.declared.refusal.Refused.{Refused}
use Rattle.frames.specs.Order.{request_limit}
use Rattle.frames.specs.Tables.{request_in, first}
use Rattle.frames.specs.declared.rest.Request.{Request}
use Rattle.pool.specs.Trees.{forest}
use Rattle.starkinfo_codegen.specs.Emitting.{Rest, pool_of}
use Rattle.starkinfo_codegen.specs.Ordering.{marks_of, job_words, State, World}

-- THE REQUEST THAT A FRAME SAYS; it asks for no result
abbrev pub request_of : Request → meaning.Request
request_of q = record { expression = q.expression; row = q.prime; fused = eqb q.muladd 1; result = none }

-- that of number k, and the first k
abbrev pub request_at : List ℕ → ℕ → meaning.Request
request_at r k = request_of (request_in r k)

abbrev pub requests_in : List ℕ → ℕ → List meaning.Request
requests_in r k = first (request_at r) k

-- the jobs of an answer, written after n others, and the marks after them
pub record Adds (x : Answer Asked) (s' j j' : List ℕ) (n r : ℕ) : Type 0 where
  pub jobs : List Job
  pub is : x ≡ done (record { jobs = jobs; marks = marks_of s' })
  pub written : j' ≡ write j n (job_words jobs)
  pub count : r ≡ n + length jobs
  pub state : State s' j' r

-- the refusals of a request: 3 and 5
abbrev pub OfRequest : Refusal → Type 0
OfRequest refusal.NotThere = ⊤
OfRequest refusal.DoublePrime = ⊤
OfRequest r = ⊥

-- the refusal of an answer
abbrev pub Refuses : Answer Asked → Refused → Type 0
Refuses x f = (x ≡ refused (refusal_of f.refusal) (blame_of f.node)) × OfRequest f.refusal

-- WHAT IS SAID of an answer and of the tables after it: how many jobs there are, or the refusal
abbrev pub Says : Answer Asked → List ℕ → List ℕ → List ℕ → ℕ → Result ℕ Refused → Type 0
Says x s' j j' n (Ok r) = Adds x s' j j' n r
Says x s' j j' n (Err f) = Refuses x f

module _ (w x : List ℕ) (b : Rest) (A : Acyclic (forest (pool_of w b))) where
  pub record OneAsks (r s j : List ℕ) (m n k : ℕ) : Type 0 where
    pub world : World w x b
    pub state : State s j n
    pub expressions : m ≡ b.expression_count
    pub there : k < request_limit
    pub in_row : (request_in r k).prime < 2

  pub record PlanAsks (r s j : List ℕ) (m count : ℕ) : Type 0 where
    pub world : World w x b
    pub state : State s j 0
    pub expressions : m ≡ b.expression_count
    pub few : count ≤ request_limit
    pub in_rows : (k : ℕ) → k < count → (request_in r k).prime < 2

-- for whichever rest of an acyclic pool: one is asked for, and the answer holds of all
abbrev pub OneAsked : List ℕ → List ℕ → List ℕ → List ℕ → List ℕ → ℕ → ℕ → ℕ → Type 0
OneAsked w x r s j m n k = (b : Rest) × (A : Acyclic (forest (pool_of w b))) × OneAsks w x b A r s j m n k

abbrev pub OneGiven : List ℕ → List ℕ → List ℕ → List ℕ → List ℕ → List ℕ → List ℕ → ℕ → ℕ → ℕ → Result ℕ Refused → Type 0
OneGiven w x r s s' j j' m n k p =
    (b : Rest) (A : Acyclic (forest (pool_of w b))) → OneAsks w x b A r s j m n k →
    Says (ask_one 2 (forest (pool_of w b)) (request_at r k) (marks_of s)) s' j j' n p

abbrev pub PlanAsked : List ℕ → List ℕ → List ℕ → List ℕ → List ℕ → ℕ → ℕ → Type 0
PlanAsked w x r s j m count = (b : Rest) × (A : Acyclic (forest (pool_of w b))) × PlanAsks w x b A r s j m count

abbrev pub PlanGiven : List ℕ → List ℕ → List ℕ → List ℕ → List ℕ → List ℕ → List ℕ → ℕ → ℕ → Result ℕ Refused → Type 0
PlanGiven w x r s s' j j' m count p =
    (b : Rest) (A : Acyclic (forest (pool_of w b))) → PlanAsks w x b A r s j m count →
    Says (ask_all 2 (forest (pool_of w b)) (requests_in r count) (marks_of s)) s' j j' 0 p
