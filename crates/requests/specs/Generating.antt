-- Requests served over tables, decided first and then written: what `generate` asks and gives.
-- Assumes nothing: these are definitions.
use Rattle.std.specs.Prelude.{ℕ, ◌+◌, ◌*◌, ◌-◌, ◌<◌, ◌≤◌, ◌≡◌, Bool, ◌&&◌, List, length, leb, ltb, Option, None, Result, Ok, Err}
use Rattle.meaning.specs.Refusals.{Answer, done, refused}
use Rattle.meaning.specs.Trees.{Forest, Acyclic}
use Rattle.meaning.specs.Order.{Marks, Job, Asked}
use Rattle.meaning.specs.Generation.{make}
use Rattle.meaning.specs.Asking.{ask_all}
use Rattle.kinds.specs.Write.{write}
use Rattle.kinds.specs.Answers.{refusal_of, blame_of}
use Rattle.kinds.specs.declared.refusal.Refusal.{Refusal}
use Rattle.kinds.specs.declared.refusal.Refusal.TheVariants as refusal
use Rattle.kinds.specs.declared.refusal.Refused.{Refused}
use Rattle.kinds.specs.Steps.{step_size}
use Rattle.pool.specs.Trees.{forest}
use Rattle.starkinfo_codegen.specs.Encoding.{encoded}
use Rattle.starkinfo_codegen.specs.Emitting.{Rest, pool_of, RowFits}
use Rattle.starkinfo_codegen.specs.Ordering.{marks_of}
use Rattle.requests.specs.Planning.{requests_in, Adds, PlanAsks}
use Rattle.requests.specs.Making.{steps_from, all_steps, JobsAsk}
use Rattle.requests.specs.declared.generate.Generation.{Generation}

-- numbers are 16 bits wide
abbrev pub number_limit : ℕ
number_limit = 65536

unfoldable pub has_room : ℕ → ℕ → ℕ → ℕ → ℕ → Bool
has_room room at t jobs steps = leb (step_size * (at + steps)) room && ltb (t + (steps - jobs)) number_limit

-- do the blocks of jobs fit? No plan has more steps than two for each node
pub record FitAsks (w x : List ℕ) (b : Rest) (js : List Job) (j : List ℕ) (n at t : ℕ) : Type 0 where
  pub jobs : JobsAsk w x b js j n
  pub most : all_steps (forest (pool_of w b)) js ≤ 8192
  pub steps : at < number_limit
  pub temporaries : t < number_limit

abbrev pub FitAsked : List ℕ → List ℕ → List ℕ → ℕ → ℕ → ℕ → Type 0
FitAsked w x j n at t = (b : Rest) × (js : List Job) × FitAsks w x b js j n at t

abbrev pub FitGiven : List ℕ → List ℕ → List ℕ → ℕ → ℕ → ℕ → ℕ → Bool → Type 0
FitGiven w x j n at t room r = (b : Rest) (js : List Job) → FitAsks w x b js j n at t → r ≡ has_room room at t n (all_steps (forest (pool_of w b)) js)

-- THE ANSWER FITS: the list has room for its steps, and the counter after them is a number
pub record Fits (E : Forest) (js : List Job) (at t room : ℕ) : Type 0 where
  pub list : step_size * (at + length (steps_from E js t)) ≤ room
  pub counter : (make E js t).counter < number_limit

module _ (E : Forest) (x : Answer Asked) (s' j j' l l' : List ℕ) (at t : ℕ) where
  -- the blocks of the answer stand in the list
  pub record Makes (n steps : ℕ) : Type 0 where
    pub adds : Adds x s' j j' 0 n
    pub fits : Fits E adds.jobs at t (length l)
    pub count : steps ≡ length (steps_from E adds.jobs t)
    pub list : l' ≡ write l (step_size * at) (encoded (steps_from E adds.jobs t))

  -- they do not fit, and the list is what it was
  pub record Overflows : Type 0 where
    pub jobs : List Job
    pub marks : Marks
    pub is : x ≡ done (record { jobs = jobs; marks = marks })
    pub over : Fits E jobs at t (length l) → ⊥
    pub kept : l' ≡ l

  -- a refusal: the blocks do not fit, or that of the answer, and the list is what it was
  abbrev pub Stops : Refusal → Option ℕ → Type 0
  Stops refusal.Full None = Overflows
  Stops r i = (x ≡ refused (refusal_of r) (blame_of i)) × (l' ≡ l)

  -- WHAT IS SAID of an answer, the tables and the list
  abbrev pub Serves : Result Generation Refused → Type 0
  Serves (Ok g) = Makes g.jobs g.steps
  Serves (Err f) = Stops f.refusal f.node

module _ (w x : List ℕ) (b : Rest) (A : Acyclic (forest (pool_of w b))) where
  pub record GenerateAsks (r s j : List ℕ) (m count at t : ℕ) : Type 0 where
    pub plan : PlanAsks w x b A r s j m count
    pub rows : RowFits w b 1
    pub steps : at < number_limit
    pub temporaries : t < number_limit

-- for whichever rest of an acyclic pool: one is asked for, and the answer holds of all
abbrev pub GenerateAsked : List ℕ → List ℕ → List ℕ → List ℕ → List ℕ → ℕ → ℕ → ℕ → ℕ → Type 0
GenerateAsked w x r s j m count at t = (b : Rest) × (A : Acyclic (forest (pool_of w b))) × GenerateAsks w x b A r s j m count at t

abbrev pub GenerateGiven :
    List ℕ → List ℕ → List ℕ → List ℕ → List ℕ → List ℕ → List ℕ → List ℕ → List ℕ → ℕ → ℕ → ℕ → ℕ → Result Generation Refused → Type 0
GenerateGiven w x r s s' j j' l l' m count at t g =
    (b : Rest) (A : Acyclic (forest (pool_of w b))) → GenerateAsks w x b A r s j m count at t →
    Serves (forest (pool_of w b)) (ask_all 2 (forest (pool_of w b)) (requests_in r count) (marks_of s)) s' j j' l l' at t g
