-- Blocks that were planned, committed to a context and its list: added after those that stand, and a result copied; all or nothing.
-- Assumes nothing: these are definitions.
use Rattle.std.specs.Prelude.{ℕ, suc, ◌+◌, ◌*◌, ◌/◌, ◌<◌, ◌≤◌, ◌≡◌, List, length, get_or, replicate, Result}
use Rattle.meaning.specs.Refusals.{Answer, ◌then◌}
use Rattle.meaning.specs.Trees.{Forest}
use Rattle.meaning.specs.Order.{Marks, Job}
use Rattle.meaning.specs.Holding.{mapped}
use Rattle.kinds.specs.Write.{write}
use Rattle.kinds.specs.Steps.{step_size}
use Rattle.kinds.specs.Answers.{answer_of}
use Rattle.kinds.specs.declared.reference.Reference.{Reference}
use Rattle.kinds.specs.declared.refusal.Refused.{Refused}
use Rattle.starkinfo_codegen.specs.Emitting.{Rest, RowFits}
use Rattle.starkinfo_codegen.specs.Ordering.{cell_of, marks_of}
use Rattle.requests.specs.Making.{JobsAsk, E}
use Rattle.requests.specs.Generating.{number_limit}
use Rattle.builds.specs.Raw.{steps_in, start_of, copy_into}
use Rattle.context.specs.Context.{cells, context_size, blocks_in, Good}
use Rattle.context.specs.Tables.{words_in}
use Rattle.codegen.specs.Said.{Said, said, adding, with_blocks}
use Rattle.codegen.specs.Written.{fitting, Stands}

-- the answer to requests
abbrev pub Served : Type 0
Served = Result (Unit {0}) Refused

-- WHAT IT SAYS
abbrev pub served_says : Served → Answer (Unit {0})
served_says r = answer_of r

-- that it was done, or its refusal
abbrev pub outcome : {A : Type 0} → Answer A → Answer (Unit {0})
outcome x = mapped (λ _. tt) x

-- an answer told, and the bytes after it
pub record Tells (a : Answer Said) (x l x' l' : List ℕ) (r : Served) : Type 0 where
  pub says : served_says r ≡ outcome a
  pub stands : Stands a x l x' l'

-- ── what is asked ────────────────────────────────────────────────────────────
-- more steps than a context of 65,535 and 1,024 jobs of at most 4,096 each make
abbrev pub step_bound : ℕ
step_bound = 8388608

abbrev pub no_words : List ℕ
no_words = replicate 1024 0

-- jobs for a good context whose words were loaded, with room in its table
pub record CommitAsks (w xs : List ℕ) (b : Rest) (js : List Job) (j s t x l : List ℕ) (n : ℕ) : Type 0 where
  pub jobs : JobsAsk w xs b js j n
  pub rows : RowFits w b 1
  pub good : Good x b.expression_count (length l)
  pub marks : length s ≡ cells
  pub loaded : t ≡ write no_words 0 (words_in x (blocks_in x))
  pub room : blocks_in x + n ≤ cells

abbrev pub CommitAsked : List ℕ → List ℕ → List ℕ → List ℕ → List ℕ → List ℕ → List ℕ → ℕ → Type 0
CommitAsked w xs j s t x l n = (b : Rest) × (js : List Job) × CommitAsks w xs b js j s t x l n

-- ── what is given ────────────────────────────────────────────────────────────
abbrev pub after_jobs : Forest → List Job → Marks → Said → Said
after_jobs E js m st = adding E (record { jobs = js; marks = m }) st

-- without a result
abbrev pub PlainGiven : List ℕ → List ℕ → List ℕ → List ℕ → List ℕ → List ℕ → List ℕ → List ℕ → List ℕ → ℕ → Served → Type 0
PlainGiven w xs j s t x x' l l' n r =
    (b : Rest) (js : List Job) → CommitAsks w xs b js j s t x l n → Tells (fitting (length l) (after_jobs (E w xs b) js (marks_of s) (said x l))) x l x' l' r

-- with a copy into d of the result of the cell of expression e at a row
abbrev pub copied : ℕ → ℕ → Reference → Said → Answer Said
copied e row d st = with_blocks st (copy_into e row d st.blocks)

abbrev pub ResultGiven : List ℕ → List ℕ → List ℕ → List ℕ → List ℕ → List ℕ → List ℕ → List ℕ → List ℕ → ℕ → ℕ → Reference → Served → Type 0
ResultGiven w xs j s t x x' l l' n cell d r =
    (b : Rest) (js : List Job) (e row : ℕ) → CommitAsks w xs b js j s t x l n → row < 2 → cell ≡ cell_of e row →
    Tells (copied e row d (after_jobs (E w xs b) js (marks_of s) (said x l)) then fitting (length l)) x l x' l' r

-- ── what is stored ───────────────────────────────────────────────────────────
pub record StoreAsked (x s t : List ℕ) (blocks steps temporaries : ℕ) : Type 0 where
  pub size : length x ≡ context_size
  pub marks : length s ≡ cells
  pub words : length t ≡ cells
  pub few : blocks ≤ cells
  pub steps16 : steps < number_limit
  pub temporaries16 : temporaries < number_limit
  pub each16 : (k : ℕ) → k < blocks → get_or t k 0 / cells < 65536

-- ── a result put in ──────────────────────────────────────────────────────────
pub record PutAsked (t l : List ℕ) (k end : ℕ) : Type 0 where
  pub there : k < cells
  pub some : 1 ≤ steps_in (get_or t k 0)
  pub inside : start_of t (suc k) ≤ end
  pub few : end ≤ 65535
  pub fits : step_size * (end + 1) ≤ length l
