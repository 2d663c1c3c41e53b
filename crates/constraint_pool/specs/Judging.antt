-- WHETHER THE CONSTRAINT MAY BE ADDED: document 01's refusals 9 and 11, of the constraint's tree as it is defined.
-- Assumes nothing: these are definitions.
use Rattle.std.specs.Prelude.{Result, ℕ, ◌+◌, ◌≡◌, List, length, get_or, drop, leb}
use Rattle.kinds.specs.Answers.{plain_answer_of}
use Rattle.kinds.specs.declared.refusal.Refusal as code
use Rattle.meaning.specs.Trees.{Forest}
use Rattle.meaning.specs.Refusals.{Refusal, Answer, ◌then◌}
use Rattle.pool.specs.Trees.{forest}
use Rattle.pool.specs.Tabled.{tabled}
use Rattle.pool.specs.Ranking.{Tabling}
use Rattle.constraint_meaning.specs.Tree.{columns_from, constraint_tree}
use Rattle.constraint_meaning.specs.Constraint.{fits, unless}
use Rattle.constraint_pool.specs.Sizes.{WholeSizeAsks}
use Rattle.constraint_pool.specs.declared.judge.Columns.{Columns}

-- WHAT IS SAID, and never a node to blame
abbrev pub fit_says : Result (Unit {0}) code.Refusal → Answer (Unit {0})
fit_says = plain_answer_of

-- of expressions E in a pool of n nodes, whichever the challenge
abbrev pub judged : Forest → ℕ → ℕ → Columns → List ℕ → List ℕ → Answer (Unit {0})
judged E n vc c ids es =
    let t = constraint_tree vc E n (get_or ids 0 0) (drop 1 ids) (columns_from c.commitments es) in
    unless Refusal.full (fits t.free (length E + 1) (c.commitments + length es + c.quotients)) then λ _.
    unless Refusal.counts (leb (c.n_cm1 + c.n_cm2) c.commitments)

abbrev pub JudgeAsked : List ℕ → List ℕ → List ℕ → List ℕ → ℕ → ℕ → Type 0
JudgeAsked w x ids es n m = (l : List ℕ) × WholeSizeAsks w l x ids es n m

abbrev pub JudgeGiven : List ℕ → List ℕ → List ℕ → List ℕ → Columns → ℕ → ℕ → Result (Unit {0}) code.Refusal → Type 0
JudgeGiven w x ids es c n m r =
    (l : List ℕ) (vc : ℕ) → WholeSizeAsks w l x ids es n m → fit_says r ≡ judged (forest (tabled (Tabling w l x n m))) n vc c ids es
