-- Laws of jobs that were planned: how many steps they have does not hang on where they start, their expressions and rows are there, no cell is made
-- twice, and they may be counted and made.
-- Assumes nothing.
use Rattle.std.specs.Prelude.{ℕ, zero, suc, ◌<◌, ◌≤◌, ◌≡◌, refl, Bool, true, false, List, [], ◌∷◌, ◌++◌, length, get_or, eqb}
use Rattle.std.proofs.Common.{sym, ◌∙◌, ap, subst, append-nil, arith, zero-add, length-append, eqb-true}
use Rattle.std.proofs.Math.Option.{Option, none, some}
use Rattle.std.proofs.lemmas.Bool.{eqb-false}
use Rattle.meaning.specs.Refusals.{Answer}
use Rattle.meaning.specs.Trees.{Expr, Forest, Acyclic, nth, Each}
use Rattle.meaning.specs.Trees as meaning
use Rattle.meaning.specs.Steps.{Ref, exp_cell}
use Rattle.meaning.specs.Emission.{emit, block_steps}
use Rattle.meaning.specs.Order.{Job, Asked, asked}
use Rattle.meaning.specs.Generation.{make_one, make}
use Rattle.meaning.specs.Building.{every}
use Rattle.meaning.specs.Asking.{ask_all}
use Rattle.meaning.proofs.Laws.Tests.{each-join, each_both}
use Rattle.meaning.proofs.Laws.Requests.{every_append}
use Rattle.meaning.proofs.Laws.Once.{Chain, all_once, all-rows, all_found}
use Rattle.kinds.specs.Write.{write-there}
use Rattle.frames.specs.Tables.{first}
use Rattle.pool.specs.Trees.{forest}
use Rattle.pool.specs.Laws.Tabled.{expression-count}
use Rattle.pool.specs.Laws.Forest.{nth-below, forest-has, forest-size}
use Rattle.starkinfo_codegen.specs.Counting.{ops}
use Rattle.starkinfo_codegen.specs.Roots.{block-count, block-leaf, block-enough}
use Rattle.starkinfo_codegen.specs.Emitting.{Rest, tables_of, pool_of}
use Rattle.starkinfo_codegen.specs.Ordering.{marks_of, job_words}
use Rattle.starkinfo_codegen.specs.JobWords.{words-length}
use Rattle.requests.specs.Planning.{request_at, requests_in, Adds, PlanAsks}
use Rattle.requests.specs.Making.{Held, JobThere, made_of, steps_from, job_steps, all_steps, E, JobsAsk}

pub each_first : {B : Type 0} (P : B → Type 0) (g : ℕ → B) (n : ℕ) → ((k : ℕ) → k < n → P (g k)) → Each P (first g n)
unfolding first
each_first P g zero h = tt
each_first P g (suc n) h = each-join P (first g n) (g n ∷ []) (each_first P g n (λ k l. h k (omega arith))) (h n (omega arith), tt)

-- ── how many steps ───────────────────────────────────────────────────────────
-- how many steps a block has does not hang on the temporary that it starts from
pub block-any : (e : Expr) (r t u : ℕ) (d : Ref) → length (block_steps (emit e r t) d) ≡ length (block_steps (emit e r u) d)
block-any e r t u d = go (eqb (ops e) 0) refl
  where
    go : (v : Bool) → eqb (ops e) 0 ≡ v → length (block_steps (emit e r t) d) ≡ length (block_steps (emit e r u) d)
    go true q = let z = eqb-true (ops e) 0 q in block-leaf r t e d z ∙ sym (block-leaf r u e d z)
    go false q = let z = eqb-false (ops e) 0 q in block-count r t e d z ∙ sym (block-count r u e d z)

-- so for a job, and for jobs one after another
pub steps-any : (y : Job) (o : Option meaning.Expression) (t : ℕ) → length (every (make_one y o t).blocks) ≡ length (every (make_one y o 0).blocks)
steps-any y none t = refl
steps-any y (some z) t =
    simp append-nil (block-any (asked y.fused z.tree) y.row t 0 (Ref.var (exp_cell y.expression y.row)))

pub steps-count : (G : Forest) (js : List Job) (t : ℕ) → length (steps_from G js t) ≡ all_steps G js
steps-count G [] t = refl
steps-count G (y ∷ js) t =
    let u = made_of G y t in
    ap length (every_append u.blocks (make G js u.counter).blocks)
    ∙ length-append (every u.blocks) (steps_from G js u.counter)
    ∙ omega (arith, steps-any y (nth G y.expression) t, steps-count G js u.counter)

-- a block has a step
module _ (w x : List ℕ) (b : Rest) where
  pub some-steps : (y : Job) → JobThere b y → 1 ≤ job_steps (E w x b) y
  some-steps y t =
      let f = forest-has (pool_of w b) y.expression (subst (λ m. y.expression < m) (sym (expression-count (tables_of w b))) t.0) in
      let e = asked y.fused f.0.tree in
      let d = Ref.var (exp_cell y.expression y.row) in
      let k : length (block_steps (emit e y.row 0) d ++ []) ≡ length (block_steps (emit e y.row 0) d) = ap length (append-nil (block_steps (emit e y.row 0) d)) in
      rw f.1 (omega (arith, k, (block-enough y.row 0 e d).1))

  pub enough-steps : (ys : List Job) → Each (JobThere b) ys → length ys ≤ all_steps (E w x b) ys
  enough-steps [] h = omega arith
  enough-steps (y ∷ ys) h = omega (arith, some-steps y h.0, enough-steps ys h.1)

-- ── jobs that were planned ───────────────────────────────────────────────────
module _ (w x : List ℕ) (b : Rest) (A : Acyclic (forest (pool_of w b))) {r s j : List ℕ} {m count : ℕ} (a : PlanAsks w x b A r s j m count) where
  abbrev G : Forest
  G = forest (pool_of w b)

  abbrev X : Answer Asked
  X = ask_all 2 G (requests_in r count) (marks_of s)

  module _ {s' j' : List ℕ} {n : ℕ} (d : Adds X s' j j' 0 n) where
    pub jobs-found : Each (λ y. (z : meaning.Expression) × (nth G y.expression ≡ some z)) d.jobs
    jobs-found = all_found 2 G (requests_in r count) (marks_of s) _ d.is

    pub jobs-there : Each (JobThere b) d.jobs
    jobs-there =
        each_both (λ y. (z : meaning.Expression) × (nth G y.expression ≡ some z)) (λ y. y.row < 2) (JobThere b)
        (λ y f q. (omega (arith, nth-below G y.expression f.1, forest-size (pool_of w b), expression-count (tables_of w b)), q)) d.jobs jobs-found
        (all-rows 2 G (requests_in r count) (marks_of s) _ (each_first (λ q. q.row < 2) (request_at r) count a.in_rows) d.is)

    pub jobs-once : Chain (marks_of s) d.jobs
    jobs-once = all_once 2 G A (requests_in r count) (marks_of s) _ d.is

    held : Held j' d.jobs
    held k h =
        let e = words-length d.jobs in
        ap (λ (z : List ℕ). get_or z k 0) d.written
        ∙ rw zero-add at (write-there j 0 (job_words d.jobs) k (omega (arith, e, d.count, d.state.room, a.state.jobs_size)) (omega (arith, e)))

    -- THEY MAY BE COUNTED AND MADE
    pub jobs-ask : JobsAsk w x b d.jobs j' n
    jobs-ask = record {
      world = a.world;
      size = d.state.jobs_size;
      held = held;
      there = jobs-there;
      count = d.count ∙ zero-add (length d.jobs);
      few = omega (arith, d.state.room);
    }
