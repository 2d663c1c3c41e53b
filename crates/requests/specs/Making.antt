-- The blocks of jobs over tables: how many steps they have, and these written, as `make` says.
-- Assumes nothing: these are definitions.
use Rattle.std.specs.Prelude.{ℕ, ◌+◌, ◌*◌, ◌/◌, ◌%◌, ◌<◌, ◌≤◌, ◌≡◌, List, [], ◌∷◌, length, get_or, eqb}
use Rattle.meaning.specs.Trees.{Forest, nth, Each}
use Rattle.meaning.specs.Steps.{Step}
use Rattle.meaning.specs.Order.{Job}
use Rattle.meaning.specs.Generation.{Made, make_one, make}
use Rattle.meaning.specs.Building.{every}
use Rattle.kinds.specs.Write.{write}
use Rattle.kinds.specs.Steps.{step_size}
use Rattle.pool.specs.Trees.{forest}
use Rattle.starkinfo_codegen.specs.Encoding.{encoded}
use Rattle.starkinfo_codegen.specs.Emitting.{Rest, pool_of, RowFits}
use Rattle.starkinfo_codegen.specs.Ordering.{cell_of, job_at, job_words, World}
use Rattle.requests.specs.declared.make.Job as code

-- ── jobs and their words ─────────────────────────────────────────────────────
abbrev pub word_of : Job → ℕ
word_of j = job_at (cell_of j.expression j.row) j.fused

pub record JobSays (word : ℕ) (r : code.Job) : Type 0 where
  pub expression : r.expression ≡ word / 4
  pub row : r.row ≡ word / 2 % 2
  pub fused : r.fused ≡ eqb (word % 2) 1

-- the first words of a table are those of jobs
abbrev pub Held : List ℕ → List Job → Type 0
Held j js = (k : ℕ) → k < length js → get_or j k 0 ≡ get_or (job_words js) k 0

-- a job whose expression is there, at one of two rows
abbrev pub JobThere : Rest → Job → Type 0
JobThere b j = (j.expression < b.expression_count) × (j.row < 2)

-- ── steps ────────────────────────────────────────────────────────────────────
-- the block of a job from temporary t on
abbrev pub made_of : Forest → Job → ℕ → Made
made_of E j t = make_one j (nth E j.expression) t

-- THE STEPS OF JOBS from temporary t on, in order
abbrev pub steps_from : Forest → List Job → ℕ → List Step
steps_from E js t = every (make E js t).blocks

-- how many: it does not hang on t
abbrev pub job_steps : Forest → Job → ℕ
job_steps E j = length (every (made_of E j 0).blocks)

abbrev pub all_steps : Forest → List Job → ℕ
all_steps E [] = 0
all_steps E (j ∷ js) = job_steps E j + all_steps E js

module _ (w x : List ℕ) (b : Rest) where
  abbrev pub E : Forest
  E = forest (pool_of w b)

  -- ── one job ────────────────────────────────────────────────────────────────
  pub record OneAsks (y : Job) (word : ℕ) : Type 0 where
    pub world : World w x b
    pub there : JobThere b y
    pub says : word ≡ word_of y

  pub record OneRoom (y : Job) (at t room : ℕ) : Type 0 where
    pub rows : RowFits w b 1
    pub fits : step_size * (at + job_steps E y) ≤ room
    pub counter : t + job_steps E y ≤ 65536

  pub record OneMakes (y : Job) (at t : ℕ) (l l' : List ℕ) (r : ℕ) : Type 0 where
    pub list : l' ≡ write l (step_size * at) (encoded (every (made_of E y t).blocks))
    pub count : r ≡ job_steps E y
    pub steps : length (every (made_of E y t).blocks) ≡ r
    pub counter : (made_of E y t).counter + 1 ≡ t + r

  -- ── all jobs ───────────────────────────────────────────────────────────────
  pub record JobsAsk (js : List Job) (j : List ℕ) (n : ℕ) : Type 0 where
    pub world : World w x b
    pub size : length j ≡ 1024
    pub held : Held j js
    pub there : Each (JobThere b) js
    pub count : n ≡ length js
    pub few : n ≤ 1024

  -- how many steps they have: a block has one at least and 4,096 at most
  pub record SizeIs (js : List Job) (n r : ℕ) : Type 0 where
    pub total : r ≡ all_steps E js
    pub some : n ≤ r
    pub small : r ≤ 4096 * n

  pub record Room (js : List Job) (at t room : ℕ) : Type 0 where
    pub rows : RowFits w b 1
    pub fits : step_size * (at + all_steps E js) ≤ room
    pub counter : t + all_steps E js ≤ 65535 + length js

-- for whichever rest of a pool and jobs: some are asked for, and the answer holds of all
abbrev pub OneSizeAsked : List ℕ → List ℕ → ℕ → Type 0
OneSizeAsked w x word = (b : Rest) × (y : Job) × OneAsks w x b y word

abbrev pub OneSizeGiven : List ℕ → List ℕ → ℕ → ℕ → Type 0
OneSizeGiven w x word r = (b : Rest) (y : Job) → OneAsks w x b y word → (r ≡ job_steps (E w x b) y) × (r ≤ 4096)

abbrev pub OneMakeAsked : List ℕ → List ℕ → ℕ → ℕ → ℕ → ℕ → Type 0
OneMakeAsked w x word at t room = (b : Rest) × (y : Job) × OneAsks w x b y word × OneRoom w x b y at t room

abbrev pub OneMakeGiven : List ℕ → List ℕ → ℕ → ℕ → ℕ → List ℕ → List ℕ → ℕ → Type 0
OneMakeGiven w x word at t l l' r = (b : Rest) (y : Job) → OneAsks w x b y word → OneRoom w x b y at t (length l) → OneMakes w x b y at t l l' r

abbrev pub SizeAsked : List ℕ → List ℕ → List ℕ → ℕ → Type 0
SizeAsked w x j n = (b : Rest) × (js : List Job) × JobsAsk w x b js j n

abbrev pub SizeGiven : List ℕ → List ℕ → List ℕ → ℕ → ℕ → Type 0
SizeGiven w x j n r = (b : Rest) (js : List Job) → JobsAsk w x b js j n → SizeIs w x b js n r

abbrev pub MakeAsked : List ℕ → List ℕ → List ℕ → ℕ → ℕ → ℕ → ℕ → Type 0
MakeAsked w x j n at t room = (b : Rest) × (js : List Job) × JobsAsk w x b js j n × Room w x b js at t room

abbrev pub MakeGiven : List ℕ → List ℕ → List ℕ → ℕ → ℕ → ℕ → List ℕ → List ℕ → Type 0
MakeGiven w x j n at t l l' =
    (b : Rest) (js : List Job) → JobsAsk w x b js j n → Room w x b js at t (length l) → l' ≡ write l (step_size * at) (encoded (steps_from (E w x b) js t))

-- and the number after the last step
abbrev pub MakeCounted : List ℕ → List ℕ → List ℕ → ℕ → ℕ → ℕ → List ℕ → List ℕ → ℕ → Type 0
MakeCounted w x j n at t l l' r =
    (b : Rest) (js : List Job) → JobsAsk w x b js j n → Room w x b js at t (length l) →
    (l' ≡ write l (step_size * at) (encoded (steps_from (E w x b) js t))) × (r ≡ at + all_steps (E w x b) js)
