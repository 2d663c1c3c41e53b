-- What computing a well_formed_lem list asks and gives.
-- Assumes nothing: these are definitions.
use Rattle.std.specs.Prelude.{ℕ, ◌*◌, ◌<◌, ◌≤◌, ◌≡◌, true, cond, List, length, get_or, leb, Result, Ok, Err}
use Rattle.kinds.specs.Write.{write}
use Rattle.kinds.specs.Answers.{plain_answer_of}
use Rattle.kinds.specs.declared.refusal.Refusal.{Refusal}
use Rattle.kinds.specs.declared.refusal.Refusal.TheVariants as refusal
use Rattle.meaning.specs.Refusals.{Answer, done, ◌then◌}
use Rattle.meaning.specs.Trees.{Lit}
use Rattle.evaluator_cells.specs.Given.{Lent, lent}
use Rattle.evaluator_cells.specs.Literals.{Reduced, NumbersOf}
use Rattle.evaluator_cells.specs.Before.{Lends}
use Rattle.evaluator_cells.specs.Cells.{cell_limit}
use Rattle.evaluator_cells.specs.Keyed.{valued_size, keyed_to, key_limit}
use Rattle.lists.specs.Records.{good_list}
use Rattle.evaluator_run.specs.Evaluation.{ruling, out_after}

-- WHAT THE CODE'S Result SAYS: how many cells are written, or the refusal
abbrev pub computed_says : Result ℕ Refusal → Answer ℕ
computed_says = plain_answer_of

-- ---- the cells put

pub record PutAsks (ks : List ℕ) (n : ℕ) : Type 0 where
  pub few : n ≤ cell_limit
  pub small : (j : ℕ) → j < n → get_or ks j 0 < key_limit

pub record PutGiven (ks vs : List ℕ) (n : ℕ) (out out' : List ℕ) (r : Result ℕ Refusal) : Type 0 where
  pub says : r ≡ cond (leb (valued_size * n) (length out)) (Ok n) (Err refusal.Full)
  pub bytes : out' ≡ cond (leb (valued_size * n) (length out)) (write out 0 (keyed_to ks vs n)) out

-- ---- a list

pub record ComputeAsks (ns ws : List ℕ) (m : ℕ) (list : List ℕ) : Type 0 where
  pub lends : Lends ws m
  pub reduced : Reduced ns m
  pub good : good_list list ≡ true

-- the answer and the lent bytes after it are those of `ruling`
pub record ComputedIs (L : ℕ → Lit) (g : Lent) (m : ℕ) (list out out' : List ℕ) (r : Result ℕ Refusal) : Type 0 where
  pub says : computed_says r ≡ (ruling L g m list (length out) then λ vs. done (length vs))
  pub bytes : out' ≡ out_after out (ruling L g m list (length out))

-- for whichever literals stand in the table
abbrev pub ComputeGiven : List ℕ → List ℕ → ℕ → List ℕ → List ℕ → List ℕ → Result ℕ Refusal → Type 0
ComputeGiven ns ws m list out out' r = (L : ℕ → Lit) → NumbersOf L m ns → ComputedIs L (lent ws) m list out out' r
