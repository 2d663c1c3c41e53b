-- Requests of which the last asks for a result, planned over tables: the jobs that they ask for, or the refusal, as `ask_all` says, and whether the last
-- request's cell was marked before its turn.
-- Assumes nothing: these are definitions.
use Rattle.std.specs.Prelude.{ℕ, ◌+◌, ◌≡◌, Bool, List, Result, Ok, Err}
use Rattle.meaning.specs.Refusals.{Answer, done}
use Rattle.meaning.specs.Trees.{Forest, Acyclic}
use Rattle.meaning.specs.Order.{Asked}
use Rattle.meaning.specs.Asking.{ask_one, ask_all}
use Rattle.kinds.specs.declared.refusal.Refused.{Refused}
use Rattle.pool.specs.Trees.{forest}
use Rattle.starkinfo_codegen.specs.Emitting.{Rest, pool_of}
use Rattle.starkinfo_codegen.specs.Ordering.{marks_of}
use Rattle.requests.specs.Planning.{request_at, requests_in, Adds, Refuses, OneAsks, PlanAsks}
use Rattle.requests.specs.declared.last.LastPlan.{LastPlan}

-- the cell of request k is marked, or not, after the requests before it
pub record MarkedBefore (E : Forest) (r : List ℕ) (k : ℕ) (s : List ℕ) (b : Bool) : Type 0 where
  pub before : Asked
  pub is : ask_all 2 E (requests_in r k) (marks_of s) ≡ done before
  pub marked : b ≡ before.marks (request_at r k).expression (request_at r k).row

-- WHAT IS SAID of an answer and of the tables after it, where the mark before it is one of which B holds
abbrev pub LastSays : (Bool → Type 0) → Answer Asked → List ℕ → List ℕ → List ℕ → ℕ → Result LastPlan Refused → Type 0
LastSays B x s' j j' n (Ok p) = Adds x s' j j' n p.jobs × B p.marked
LastSays B x s' j j' n (Err f) = Refuses x f

-- for whichever rest of an acyclic pool: one is asked for, and the answer holds of all
abbrev pub FinalGiven : List ℕ → List ℕ → List ℕ → List ℕ → List ℕ → List ℕ → List ℕ → ℕ → ℕ → ℕ → Result LastPlan Refused → Type 0
FinalGiven w x r s s' j j' m n k p =
    (b : Rest) (A : Acyclic (forest (pool_of w b))) → OneAsks w x b A r s j m n k →
    LastSays (λ v. v ≡ marks_of s (request_at r k).expression (request_at r k).row) (ask_one 2 (forest (pool_of w b)) (request_at r k) (marks_of s)) s' j j' n p

abbrev pub LastAsked : List ℕ → List ℕ → List ℕ → List ℕ → List ℕ → ℕ → ℕ → Type 0
LastAsked w x r s j m k = (b : Rest) × (A : Acyclic (forest (pool_of w b))) × PlanAsks w x b A r s j m (k + 1)

abbrev pub LastGiven : List ℕ → List ℕ → List ℕ → List ℕ → List ℕ → List ℕ → List ℕ → ℕ → ℕ → Result LastPlan Refused → Type 0
LastGiven w x r s s' j j' m k p =
    (b : Rest) (A : Acyclic (forest (pool_of w b))) → PlanAsks w x b A r s j m (k + 1) →
    LastSays (MarkedBefore (forest (pool_of w b)) r k s) (ask_all 2 (forest (pool_of w b)) (requests_in r (k + 1)) (marks_of s)) s' j j' 0 p
