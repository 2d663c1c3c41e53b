-- THE EVALUATOR FROM FRAMES: the answer to a pool, a list, a modulus and the given values, with room for the cells' values; and what stands in that room after
-- it. The order of refusals: 1 and 9 while reading, 1 of the list, the modulus and the values, 2, 3 and 4 of the pool, 10, 9.
-- Assumes nothing: these are definitions.
use Rattle.std.specs.Prelude.{Result, ℕ, ◌<◌, ◌≤◌, ◌≡◌, true, false, List, [], length}
use Rattle.std.proofs.Math.Option.{Option, none}
use Rattle.kinds.specs.Answers.{answer_of}
use Rattle.kinds.specs.declared.refusal.Refused.{Refused}
use Rattle.meaning.specs.Refusals.{Refusal, Answer, done, refused, ◌then◌}
use Rattle.frames.specs.Order.{Input, node_limit, expression_limit}
use Rattle.frames.specs.Reading.{reading}
use Rattle.frames.specs.declared.count.Counts.{Counts}
use Rattle.pool.specs.Pool.{Pool}
use Rattle.pool.specs.Verdict.{Verdict}
use Rattle.pool.specs.Numbered.{pool_of}
use Rattle.pool.specs.Ranking.{Tabling}
use Rattle.pool.specs.Tabled.{tabled}
use Rattle.requests.specs.Whole.{pool_in}
use Rattle.evaluator_cells.specs.Given.{lent}
use Rattle.evaluator_cells.specs.Literals.{brought_at}
use Rattle.evaluator_run.specs.Evaluation.{Valued, well_formed, ruling, out_after}

-- ── the answer ───────────────────────────────────────────────────────────────
module _ (list : List ℕ) (m : ℕ) (ws : List ℕ) (room : ℕ) where
  -- of a pool, where all else is well formed: its verdict's refusal, or what the list computes over the literals of its nodes
  abbrev pub Judged : Pool → Answer (List Valued) → Type 0
  Judged p a = (v : Answer (Unit {0})) × Verdict p [] v × (a ≡ (v then λ _. ruling (brought_at p) (lent ws) m list room))

  -- a is THE ANSWER where reading answers x
  pub record Evaluates (x : Answer Input) (a : Answer (List Valued)) : Type 0 where
    pub unread : (k : Refusal) (o : Option ℕ) → x ≡ refused k o → a ≡ refused k o
    pub malformed : (i : Input) → x ≡ done i → well_formed ws m list ≡ false → a ≡ refused Refusal.malformed none
    pub judged : (i : Input) → x ≡ done i → well_formed ws m list ≡ true → Judged (pool_of i) a

-- ── what the code answers ────────────────────────────────────────────────────
-- how many cells are written, or the refusal
abbrev pub Evaluation : Type 0
Evaluation = Result ℕ Refused

-- WHAT Evaluation SAYS
abbrev pub answer_says : Evaluation → Answer ℕ
answer_says = answer_of

-- an answer told, and the lent bytes after it: the cells' values at the front, or what they were
pub record Tells (a : Answer (List Valued)) (out out' : List ℕ) (r : Evaluation) : Type 0 where
  pub says : answer_says r ≡ (a then λ vs. done (length vs))
  pub bytes : out' ≡ out_after out a

-- THE CONTRACT
abbrev pub EvaluationIs : List ℕ → List ℕ → ℕ → List ℕ → List ℕ → List ℕ → Evaluation → Type 0
EvaluationIs s list m ws out out' r = (a : Answer (List Valued)) × Evaluates list m ws (length out) (reading s) a × Tells a out out' r

-- ── of tables ────────────────────────────────────────────────────────────────
pub record ReadAsks (c : Counts) : Type 0 where
  pub nodes : c.nodes ≤ node_limit
  pub expressions : c.expressions ≤ expression_limit

pub record PoolAsks (count : ℕ) (list : List ℕ) (m : ℕ) (ws : List ℕ) : Type 0 where
  pub few : count ≤ node_limit
  pub formed : well_formed ws m list ≡ true
  pub small : m < 0x100000000

-- for whichever expressions
abbrev pub PoolEvaluated : List ℕ → List ℕ → ℕ → List ℕ → ℕ → List ℕ → List ℕ → List ℕ → Evaluation → Type 0
PoolEvaluated nodes literals count list m ws out out' r =
    (e : List ℕ) (k : ℕ) → Tells (ruling (brought_at (tabled (Tabling nodes literals e count k))) (lent ws) m list (length out)) out out' r

pub record ReadEvaluated (nodes literals expressions : List ℕ) (c : Counts) (list : List ℕ) (m : ℕ) (ws out out' : List ℕ) (r : Evaluation) : Type 0 where
  pub answer : Answer (List Valued)
  pub malformed : well_formed ws m list ≡ false → answer ≡ refused Refusal.malformed none
  pub judged : well_formed ws m list ≡ true → Judged list m ws (length out) (pool_in nodes literals expressions c) answer
  pub tells : Tells answer out out' r
