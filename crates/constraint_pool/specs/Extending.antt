-- What `extend` asks and gives: the definition's refusal with the tables as they were, or the tables with the constraint.
-- Assumes nothing: these are definitions.
use Rattle.std.specs.Prelude.{Result, Ok, Err, ℕ, ◌≡◌, List, get_or, drop}
use Rattle.kinds.specs.Answers.{plain_answer_of}
use Rattle.kinds.specs.declared.refusal.Refusal as code
use Rattle.meaning.specs.Refusals.{Answer, done, ◌then◌}
use Rattle.pool.specs.Trees.{forest}
use Rattle.pool.specs.Tabled.{tabled}
use Rattle.pool.specs.Ranking.{Tabling}
use Rattle.constraint_meaning.specs.Tree.{columns_from, constraint_tree}
use Rattle.constraint_pool.specs.Whole.{AllBelow, Adds}
use Rattle.constraint_pool.specs.Sizes.{WholeSizeAsks}
use Rattle.constraint_pool.specs.Judging.{judged}
use Rattle.constraint_pool.specs.declared.judge.Columns.{Columns}

-- a pool with its shape, an identity, and identities and members that are there
pub record ExtendAsks (w l x ids es : List ℕ) (n m : ℕ) : Type 0 where
  pub whole : WholeSizeAsks w l x ids es n m
  pub identities : AllBelow m ids

-- WHAT IS SAID, and never a node to blame
abbrev pub extended_says : Result ℕ code.Refusal → Answer ℕ
extended_says = plain_answer_of

-- the tables after an answer
abbrev pub TablesAfter : (w l x ids es : List ℕ) (vc : ℕ) (c : Columns) (n m : ℕ) (w' l' x' : List ℕ) → Result ℕ code.Refusal → Type 0
TablesAfter w l x ids es vc c n m w' l' x' (Err f) = (w' ≡ w) × (l' ≡ l) × (x' ≡ x)
TablesAfter w l x ids es vc c n m w' l' x' (Ok r) = Adds w l x ids es vc c.commitments n m w' l' x' r

-- THE ANSWER AND THE TABLES
pub record Gives (w l x ids es : List ℕ) (vc : ℕ) (c : Columns) (n m : ℕ) (w' l' x' : List ℕ) (r : Result ℕ code.Refusal) : Type 0 where
  pub answer :
      extended_says r
      ≡ (judged (forest (tabled (Tabling w l x n m))) n vc c ids es then λ _.
      done (constraint_tree vc (forest (tabled (Tabling w l x n m))) n (get_or ids 0 0) (drop 1 ids) (columns_from c.commitments es)).free)
  pub tables : TablesAfter w l x ids es vc c n m w' l' x' r
