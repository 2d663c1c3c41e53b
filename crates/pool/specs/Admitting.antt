-- What the functions of admission answer, of the pool that stands in tables.
-- Assumes nothing: these are definitions.
use Rattle.std.specs.Prelude.{Result, Ok, Err, ℕ, ◌<◌, ◌≤◌, ◌≡◌, List}
use Rattle.meaning.specs.Trees.{Member}
use Rattle.kinds.specs.Answers.{refusal_of, blame_of, answer_of}
use Rattle.kinds.specs.declared.refusal.Refused.{Refused}
use Rattle.meaning.specs.Refusals.{Answer, done, refused}
use Rattle.frames.specs.Order.{node_limit, expression_limit}
use Rattle.pool.specs.Admission.{shape, Ranked}
use Rattle.pool.specs.Verdict as pool
use Rattle.pool.specs.Tabled.{Tables, tabled}
use Rattle.pool.specs.Ranking.{Tabling, Starts, rank_in}

-- WHAT IS SAID of a shape: document 01's refusal, and the node to blame
abbrev pub shape_says : Result (Unit {0}) Refused → Answer (Unit {0})
shape_says = answer_of

-- WHAT IS SAID of a pool: the same, with its ranks left out
abbrev pub verdict_says : Result (List ℕ) Refused → Answer (Unit {0})
verdict_says (Ok ranks) = done tt
verdict_says (Err f) = refused (refusal_of f.refusal) (blame_of f.node)

-- within the limits, and the table's expressions are there
pub record Fits (table : List ℕ) (n m : ℕ) : Type 0 where
  pub nodes : n ≤ node_limit
  pub expressions : m ≤ expression_limit
  pub tabulated : (u : ℕ) → Member u table → u < m

-- for whichever literals
abbrev pub ShapeGiven : List ℕ → List ℕ → ℕ → ℕ → Result (Unit {0}) Refused → Type 0
ShapeGiven w x n m r = (l : List ℕ) → shape_says r ≡ shape (tabled (Tabling w l x n m))

-- THE ANSWER OF ADMISSION: the verdict, and ranks where it is admitted
pub record Admits (t : Tables) (table : List ℕ) (r : Result (List ℕ) Refused) : Type 0 where
  pub judged : pool.Verdict (tabled t) table (verdict_says r)
  pub ranked : (ranks : List ℕ) → r ≡ Ok ranks → Ranked (tabled t) table (rank_in ranks)

abbrev pub AdmitGiven : List ℕ → List ℕ → List ℕ → ℕ → ℕ → Result (List ℕ) Refused → Type 0
AdmitGiven w x table n m r = (l : List ℕ) → Admits (Tabling w l x n m) table r

abbrev pub RankedGiven : List ℕ → List ℕ → List ℕ → ℕ → Result (List ℕ) Refused → Type 0
RankedGiven w x table m r = (l : List ℕ) (n : ℕ) → Starts (Tabling w l x n m) table → Admits (Tabling w l x n m) table r
