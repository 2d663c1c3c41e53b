-- The order of blocks over tables: what finding a leaf out of rows, pil_code_gen and calculate_deps ask and give.
-- A table of marks holds a byte for each cell, an expression at one of two rows; a table of jobs a word for each job.
-- Assumes nothing: these are definitions.
use Rattle.std.specs.Prelude.{ℕ, suc, ◌+◌, ◌-◌, ◌*◌, ◌<◌, ◌≤◌, ◌≡◌, Bool, false, ◌&&◌, cond, Option, Some, None, List, [], ◌∷◌, ◌⊎◌, length, get_or, ltb}
use Rattle.std.proofs.Math.Option.{some}
use Rattle.meaning.specs.Refusals.{Refusal, Answer, done, refused}
use Rattle.meaning.specs.Trees.{Placed, leaves, Each, Forest, Falls, Acyclic}
use Rattle.meaning.specs.Order.{Marks, Job, Asked, primed, own, ask_leaves, ask_below}
use Rattle.meaning.proofs.Laws.Jobs.{InRows}
use Rattle.kinds.specs.Write.{write}
use Rattle.frames.specs.Tables.{node_in}
use Rattle.pool.specs.Trees.{leaf_of, forest}
use Rattle.pool.specs.Ranking.{zeros}
use Rattle.starkinfo_codegen.specs.Words.{node_of_words}
use Rattle.starkinfo_codegen.specs.declared.order.Deps.{Deps}
use Rattle.starkinfo_codegen.specs.Plans.{Part, under, brought, absent}
use Rattle.starkinfo_codegen.specs.Emitting.{Rest, pool_of, Pooled, part_of, There}

-- ── leaves ───────────────────────────────────────────────────────────────────
abbrev pub part_leaves : Part → List Placed
part_leaves (under e) = leaves e
part_leaves brought = []
part_leaves absent = []

-- of what a number of an operand stands for
abbrev pub leaves_of : List ℕ → Rest → Bool → ℕ → List Placed
leaves_of w b f i = part_leaves (part_of w b f i)

-- ── a leaf out of rows ───────────────────────────────────────────────────────
-- a node is to blame, or none is
abbrev pub blames : Answer (Unit {0}) → Option ℕ → Type 0
blames x (Some i) = (i < 4096) × (x ≡ refused Refusal.double_prime (some i))
blames x None = x ≡ done tt

abbrev pub LeafAsked : ℕ → ℕ → Type 0
LeafAsked row i = (row < 2) × (i < 4096)

abbrev pub LeafGiven : List ℕ → ℕ → ℕ → Option ℕ → Type 0
LeafGiven w row i r = (l : List ℕ) → blames (primed 2 (leaf_of (node_in w l i)) i row) r

pub record OutAsks (w : List ℕ) (b : Rest) (f : Bool) (row i : ℕ) : Type 0 where
  pub pool : Pooled w b
  pub there : There w b f i
  pub in_row : row < 2

abbrev pub OutAsked : List ℕ → Bool → ℕ → ℕ → Type 0
OutAsked w f row i = (b : Rest) × OutAsks w b f row i

abbrev pub OutGiven : List ℕ → Bool → ℕ → ℕ → Option ℕ → Type 0
OutGiven w f row i r = (b : Rest) → OutAsks w b f row i → blames (own 2 (leaves_of w b f i) row) r

-- where it is known that no leaf is out unless one was seen
abbrev pub SeenGiven : List ℕ → Bool → ℕ → ℕ → Bool → Option ℕ → Type 0
SeenGiven w f row i seen r =
    (b : Rest) → OutAsks w b f row i → (seen ≡ false → own 2 (leaves_of w b f i) row ≡ done tt) → blames (own 2 (leaves_of w b f i) row) r

-- ── marks and jobs ───────────────────────────────────────────────────────────
abbrev pub cell_of : ℕ → ℕ → ℕ
cell_of e r = 2 * e + r

unfoldable pub marks_of : List ℕ → Marks
marks_of s = λ e r. ltb r 2 && ltb 0 (get_or s (cell_of e r) 0)

unfoldable pub job_at : ℕ → Bool → ℕ
job_at c fused = c * 2 + cond fused 1 0

abbrev pub job_words : List Job → List ℕ
job_words [] = []
job_words (j ∷ js) = job_at (cell_of j.expression j.row) j.fused ∷ job_words js

-- a refusal, by the number that stands for it
abbrev pub stops : {A : Type 0} → ℕ → Answer A
stops r = refused Refusal.double_prime (some (r - 1025))

-- both tables in full, and room for a job of each cell that has no mark
pub record State (s j : List ℕ) (n : ℕ) : Type 0 where
  pub marks_size : length s ≡ 1024
  pub jobs_size : length j ≡ 1024
  pub room : n + zeros s ≤ 1024

pub record Stopped (x : Answer Asked) (r : ℕ) : Type 0 where
  pub low : 1025 ≤ r
  pub high : r < 5121
  pub is : x ≡ stops r

-- the marks and the jobs after an answer; no expression of such a rank is marked
pub record Made (rank : ℕ → ℕ) (level : ℕ) (x : Answer Asked) (s s' j j' : List ℕ) (n r : ℕ) : Type 0 where
  pub jobs : List Job
  pub is : x ≡ done (record { jobs = jobs; marks = marks_of s' })
  pub written : j' ≡ write j n (job_words jobs)
  pub count : r ≡ n + length jobs
  pub state : State s' j' r
  pub kept : (u q : ℕ) → level ≤ rank u → q < 2 → get_or s' (cell_of u q) 0 ≡ get_or s (cell_of u q) 0

-- THE ANSWER IN TABLES: what is said of them where it is done, and which refusal where it is not
abbrev pub Gives : (ℕ → ℕ) → ℕ → Answer Asked → List ℕ → List ℕ → List ℕ → List ℕ → ℕ → ℕ → Type 0
Gives rank level x s s' j j' n r = Stopped x r ⊎ Made rank level x s s' j j' n r

pub record World (w x : List ℕ) (b : Rest) : Type 0 where
  pub pool : Pooled w b
  pub few : b.expression_count ≤ 512
  pub roots : b.expressions ≡ x

module _ (w x : List ℕ) (b : Rest) (A : Acyclic (forest (pool_of w b))) where
  abbrev pub E : Forest
  E = forest (pool_of w b)

  pub record CodeAsks (s j : List ℕ) (levels n e row : ℕ) : Type 0 where
    pub world : World w x b
    pub state : State s j n
    pub there : e < b.expression_count
    pub in_row : row < 2
    pub deep : A.rank e < levels

  pub record DepsAsks (level : ℕ) (s j : List ℕ) (levels n row i : ℕ) : Type 0 where
    pub world : World w x b
    pub state : State s j n
    pub there : There w b false i
    pub in_row : row < 2
    pub falls : Each (Falls E A.rank level) (leaves_of w b false i)
    pub deep : level ≤ levels

  abbrev pub coded : ℕ → Bool → ℕ → ℕ → Marks → Answer Asked
  coded levels fused e row m = ask_below 2 E levels fused e row m

  abbrev pub needed : ℕ → List Placed → ℕ → Marks → Answer Asked
  needed levels ls row m = ask_leaves 2 (ask_below 2 E levels false) ls row m

-- for whichever rest of an acyclic pool: one is asked for, and the answer holds of all
abbrev pub CodeAsked : List ℕ → List ℕ → List ℕ → List ℕ → ℕ → ℕ → ℕ → ℕ → Type 0
CodeAsked w x s j levels n e row = (b : Rest) × (A : Acyclic (forest (pool_of w b))) × CodeAsks w x b A s j levels n e row

abbrev pub CodeGiven : List ℕ → List ℕ → List ℕ → List ℕ → List ℕ → List ℕ → ℕ → ℕ → ℕ → ℕ → Bool → ℕ → Type 0
CodeGiven w x s s' j j' levels n e row fused r =
    (b : Rest) (A : Acyclic (forest (pool_of w b))) → CodeAsks w x b A s j levels n e row →
    Gives A.rank (suc (A.rank e)) (coded w x b A levels fused e row (marks_of s)) s s' j j' n r

abbrev pub DepsAsked : List ℕ → List ℕ → List ℕ → List ℕ → ℕ → ℕ → ℕ → ℕ → Type 0
DepsAsked w x s j levels n row i = (b : Rest) × (A : Acyclic (forest (pool_of w b))) × (level : ℕ) × DepsAsks w x b A level s j levels n row i

abbrev pub DepsGiven : List ℕ → List ℕ → List ℕ → List ℕ → List ℕ → List ℕ → ℕ → ℕ → ℕ → ℕ → ℕ → Type 0
DepsGiven w x s s' j j' levels n row i r =
    (b : Rest) (A : Acyclic (forest (pool_of w b))) (level : ℕ) → DepsAsks w x b A level s j levels n row i →
    Gives A.rank level (needed w x b A levels (leaves_of w b false i) row (marks_of s)) s s' j j' n r

-- a node without children
abbrev pub LeafDepsAsked : List ℕ → List ℕ → List ℕ → List ℕ → ℕ → ℕ → ℕ → ℕ → Type 0
LeafDepsAsked w x s j levels n row i = DepsAsked w x s j levels n row i × (i < 4096) × ((node_of_words w i).count ≡ 0)

-- and where all leaves were walked and none was seen out of rows, none is
abbrev pub QuietGiven : List ℕ → List ℕ → List ℕ → List ℕ → ℕ → ℕ → ℕ → ℕ → Deps → Type 0
QuietGiven w x s j levels n row i r =
    (b : Rest) (A : Acyclic (forest (pool_of w b))) (level : ℕ) → DepsAsks w x b A level s j levels n row i → r.jobs ≤ 1024 → r.out ≡ false →
    Each (InRows 2 row) (leaves_of w b false i)
