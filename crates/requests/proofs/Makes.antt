-- Blocks made one after another: what is left, written after what stands, is the whole. No word of the code.
-- Assumes nothing.
use Prim.Native.Nat.{ℕ, zero, suc, ◌+◌, ◌*◌, ◌-◌, ◌<◌, ◌≤◌}
use mathlib.Core.Path.{◌≡◌, refl, sym, ◌∙◌, ap, subst}
use mathlib.Core.Bool.{Bool, true, false}
use mathlib.Core.Option.{some}
use mathlib.Core.List.{List, [], ◌∷◌, ◌++◌, append-nil}
use native.Mathlib.Omega.{arith}
use native.Mathlib.Nat.{not-suc-le-zero, le_of_suc-le-suc}
use lib.ListN.{length, get_or, drop, length-drop}
use lib.Seq.{drop-cons, drop-length}
use Rattle.meaning.specs.Trees.{Expr, nth, Each}
use Rattle.meaning.specs.Trees as meaning
use Rattle.meaning.specs.Steps.{Ref, Step, exp_cell}
use Rattle.meaning.specs.Emission.{emit}
use Rattle.meaning.specs.Order.{Job}
use Rattle.meaning.specs.Generation.{make}
use Rattle.meaning.specs.Building.{every}
use Rattle.meaning.proofs.Laws.Requests.{every_append}
use Rattle.kinds.specs.Write.{write, write-none, write-append}
use Rattle.kinds.specs.Steps.{step_size}
use Rattle.frames.specs.Tables.{expression_in}
use Rattle.frames.specs.declared.rest.Expression.{Expression}
use Rattle.pool.specs.Words.{root_in}
use Rattle.pool.specs.Pool.{root_of}
use Rattle.pool.specs.Trees.{tree}
use Rattle.pool.specs.Laws.Tabled.{node-count, expression-count, root-at}
use Rattle.pool.specs.Laws.Forest.{forest-at, forest-has}
use Rattle.starkinfo_codegen.specs.Encoding.{encoded, encoded-append, encoded-none, encoded-length}
use Rattle.starkinfo_codegen.specs.Counting.{block-length}
use Rattle.starkinfo_codegen.specs.Emitting.{Rest, tables_of, pool_of, tree_of, Sizes, steps_of_block, BlockAsks, BlockGives}
use Rattle.starkinfo_codegen.specs.Making.{block_made}
use Rattle.starkinfo_codegen.specs.Ordering.{cell_of, job_at, job_words}
use Rattle.starkinfo_codegen.specs.JobWords.{job_in, job-back}
use Rattle.requests.specs.Making.{word_of, JobSays, JobThere, made_of, steps_from, job_steps, all_steps, E, OneAsks, OneRoom, OneMakes, JobsAsk, SizeIs, Room}
use Rattle.requests.specs.Jobs.{block-any, some-steps, enough-steps}
use Rattle.requests.specs.declared.make.Job as code

-- ── one job ──────────────────────────────────────────────────────────────────
module _ (w x : List ℕ) (b : Rest) (y : Job) {word : ℕ} (a : OneAsks w x b y word) where
  word-is : (f : Bool) → job_at (cell_of y.expression y.row) f < 2048
  unfolding job_at
  word-is true = omega (arith, a.there.0, a.there.1, a.world.few)
  word-is false = omega (arith, a.there.0, a.there.1, a.world.few)

  pub word_small : word < 2048
  word_small = subst (λ v. v < 2048) (sym a.says) (word-is y.fused)

  job_is : job_in word ≡ y
  job_is = ap job_in a.says ∙ job-back y.expression y.row y.fused a.there.1

  module _ (g : code.Job) (h : JobSays word g) where
    pub expression-is : g.expression ≡ y.expression
    expression-is = h.expression ∙ ap (λ z. z.expression) job_is

    row_is : g.row ≡ y.row
    row_is = h.row ∙ ap (λ z. z.row) job_is

    fused-is : g.fused ≡ y.fused
    fused-is = h.fused ∙ ap (λ z. z.fused) job_is

    pub expression-there : g.expression < 512
    expression-there = omega (arith, expression-is, a.there.0, a.world.few)

    module _ (q : Expression) (k : q ≡ expression_in x g.expression) where
      abbrev rt : ℕ
      rt = root_in x y.expression

      root_is : q.root ≡ rt
      root_is = ap (λ z. z.root) k ∙ ap (λ z. root_in x z) expression-is

      rooted : root_of (pool_of w b) y.expression ≡ rt
      rooted = root-at (tables_of w b) y.expression a.there.0 ∙ ap (λ (z : List ℕ). root_in z y.expression) a.world.roots

      pub root-there : q.root < b.node_count
      root-there =
          omega (
            arith,
            a.world.pool.shaped.rooted y.expression (subst (λ m. y.expression < m) (sym (expression-count (tables_of w b))) a.there.0),
            node-count (tables_of w b),
            rooted,
            root_is,
          )

      found : (z : meaning.Expression) × (nth (E w x b) y.expression ≡ some z) × (z.tree ≡ tree (pool_of w b) q.root)
      found =
          let f = forest-has (pool_of w b) y.expression (subst (λ m. y.expression < m) (sym (expression-count (tables_of w b))) a.there.0) in
          (f.0, f.1, (forest-at (pool_of w b) y.expression f.0 f.1).1 ∙ ap (tree (pool_of w b)) (rooted ∙ sym root_is))

      -- its block
      abbrev steps_at : ℕ → List Step
      steps_at t = steps_of_block w b g.fused g.row t q.root g.expression

      made-is :
          (t : ℕ) →
          made_of (E w x b) y t
          ≡ record {
            blocks = record { expression = y.expression; row = y.row; steps = steps_of_block w b y.fused y.row t q.root y.expression } ∷ [];
            counter = (emit (tree_of w b y.fused q.root) y.row t).free;
          }
      made-is t = rw found.1 (block_made w b y found.0 q.root t found.2)

      pub steps_are : (t : ℕ) → every (made_of (E w x b) y t).blocks ≡ steps_at t
      steps_are t = rw (made-is t, expression-is, row_is, fused-is) (append-nil (steps_of_block w b y.fused y.row t q.root y.expression))

      counter_is : (t : ℕ) → (made_of (E w x b) y t).counter ≡ (emit (tree_of w b g.fused q.root) g.row t).free
      counter_is t = rw (made-is t, row_is, fused-is)

      count-is : (t : ℕ) → job_steps (E w x b) y ≡ length (steps_at t)
      count-is t = ap length (steps_are 0) ∙ block-any (tree_of w b g.fused q.root) g.row 0 t (Ref.var (exp_cell g.expression g.row))

      pub size_is : {v : ℕ} → Sizes w b g.fused q.root v → (v ≡ job_steps (E w x b) y) × (v ≤ 4096)
      size_is s = (s.steps g.row 0 (Ref.var (exp_cell g.expression g.row)) ∙ sym (count-is 0), s.few)

      pub block-asks : {at t room : ℕ} → OneRoom w x b y at t room → BlockAsks w b g.fused g.row t q.root g.expression at room
      block-asks {at} {t} {room} o =
          let n = count-is t in
          let z = block-length g.row (tree_of w b g.fused q.root) t (Ref.var (exp_cell g.expression g.row)) in
          record {
            pool = a.world.pool;
            rows = λ i h. omega (arith, o.rows i h, row_is, a.there.1);
            there = root-there;
            fits = omega (arith, o.fits, n);
            counter = omega (arith, o.counter, n, z);
          }

      pub block-makes :
          {at t : ℕ} {l l' : List ℕ} {r : ℕ} → BlockGives w b g.fused g.row t q.root g.expression at l l' r → OneMakes w x b y at t l l' r
      block-makes {at} {t} {l} u = record {
        list = u.list ∙ ap (λ (s : List Step). write l (step_size * at) (encoded s)) (sym (steps_are t));
        count = u.count ∙ sym (count-is t);
        steps = ap length (steps_are t) ∙ sym u.count;
        counter = omega (arith, counter_is t, u.counter);
      }

-- ── jobs by number ───────────────────────────────────────────────────────────
abbrev no_job : Job
no_job = record { expression = 0; row = 0; fused = false }

abbrev pub nth_job : List Job → ℕ → Job
nth_job js k = get_or js k no_job

words-at : (js : List Job) (k : ℕ) → k < length js → get_or (job_words js) k 0 ≡ word_of (nth_job js k)
words-at [] k h = absurd (not-suc-le-zero h)
words-at (y ∷ js) zero h = refl
words-at (y ∷ js) (suc k) h = words-at js k (le_of_suc-le-suc h)

pub each_at : (P : Job → Type 0) (js : List Job) (k : ℕ) → k < length js → Each P js → P (nth_job js k)
each_at P [] k h e = absurd (not-suc-le-zero h)
each_at P (y ∷ js) zero h e = e.0
each_at P (y ∷ js) (suc k) h e = each_at P js k (le_of_suc-le-suc h) e.1

each-drop : (P : Job → Type 0) (js : List Job) (k : ℕ) → Each P js → Each P (drop k js)
each-drop P js zero e = e
each-drop P [] (suc k) e = tt
each-drop P (y ∷ js) (suc k) e = each-drop P js k e.1

-- ── all jobs ─────────────────────────────────────────────────────────────────
module _ (w x : List ℕ) (b : Rest) (js : List Job) {j : List ℕ} {n : ℕ} (a : JobsAsk w x b js j n) where
  abbrev F : meaning.Forest
  F = E w x b

  module _ {k : ℕ} (h : k < n) where
    pub inside : k < length js
    inside = omega (arith, a.count)

    pub one-asks : OneAsks w x b (nth_job js k) (get_or j k 0)
    one-asks = record { world = a.world; there = each_at (JobThere b) js k inside a.there; says = a.held k inside ∙ words-at js k inside }

    pub rest-is : drop k js ≡ nth_job js k ∷ drop (suc k) js
    rest-is = drop-cons js k no_job inside

    steps-left : all_steps F (drop k js) ≡ job_steps F (nth_job js k) + all_steps F (drop (suc k) js)
    steps-left = ap (all_steps F) rest-is

  pub nothing_left : {k : ℕ} → k ≤ n → n ≤ k → drop k js ≡ []
  nothing_left {k} g h = let e : k ≡ length js = omega (arith, a.count) in rw (e, drop-length)

  -- the steps up to job k, counted
  pub record Counted (steps k : ℕ) : Type 0 where
    pub below : k ≤ n
    pub total : steps + all_steps F (drop k js) ≡ all_steps F js
    pub small : steps ≤ 4096 * k

  pub none-counted : Counted 0 0
  none-counted = record { below = omega arith; total = omega arith; small = omega arith }

  pub one-counted : {steps k r : ℕ} → Counted steps k → k < n → (r ≡ job_steps F (nth_job js k)) × (r ≤ 4096) → Counted (steps + r) (k + 1)
  one-counted {steps} {k} {r} c h g =
      let e : k + 1 ≡ suc k = omega arith in
      record { below = omega arith; total = rw e (omega (arith, c.total, steps-left h, g.0)); small = omega (arith, c.small, g.1) }

  pub all-counted : {steps k : ℕ} → Counted steps k → n ≤ k → SizeIs w x b js n steps
  all-counted {steps} {k} c h =
      let e : steps ≡ all_steps F js = omega (arith, c.total, ap (all_steps F) (nothing_left c.below h)) in
      record { total = e; some = omega (arith, e, enough-steps w x b js a.there, a.count); small = omega (arith, c.small, c.below) }

  -- ── blocks written ─────────────────────────────────────────────────────────
  module _ (l₀ : List ℕ) {at₀ t₀ : ℕ} (o : Room w x b js at₀ t₀ (length l₀)) where
    -- what is left, written after what stands, is the whole
    pub record Progress (l : List ℕ) (at t k : ℕ) : Type 0 where
      pub below : k ≤ n
      pub size : length l ≡ length l₀
      pub steps : at + all_steps F (drop k js) ≡ at₀ + all_steps F js
      pub temporaries : t + all_steps F (drop k js) + k ≡ t₀ + all_steps F js
      pub list : write l (step_size * at) (encoded (steps_from F (drop k js) t)) ≡ write l₀ (step_size * at₀) (encoded (steps_from F js t₀))

    pub begin : Progress l₀ at₀ t₀ 0
    begin = record { below = omega arith; size = refl; steps = refl; temporaries = omega arith; list = refl }

    module _ {l : List ℕ} {at t k : ℕ} (p : Progress l at t k) (h : k < n) where
      pub one-room : OneRoom w x b (nth_job js k) at t (length l)
      one-room =
          let e = steps-left h in
          let g = enough-steps w x b (drop (suc k) js) (each-drop (JobThere b) js (suc k) a.there) in
          let r : length (drop (suc k) js) ≡ length js - suc k = simp length-drop in
          record {
            rows = o.rows;
            fits = omega (arith, p.steps, p.size, e, o.fits);
            counter = omega (arith, p.temporaries, e, g, r, o.counter, a.count);
          }

      pub grows : {l' : List ℕ} {r : ℕ} → OneMakes w x b (nth_job js k) at t l l' r → (step_size * (at + r) ≤ length l₀) × (1 ≤ r) × (t + r ≤ 65536)
      grows m =
          let s = some-steps w x b (nth_job js k) (each_at (JobThere b) js k (inside h) a.there) in
          (omega (arith, m.count, one-room.fits, p.size), omega (arith, m.count, s), omega (arith, m.count, one-room.counter))

      pub again : {l' : List ℕ} {r : ℕ} → OneMakes w x b (nth_job js k) at t l l' r → length l' ≡ length l → Progress l' (at + r) (t + (r - 1)) (k + 1)
      again {l'} {r} m q =
          let y = nth_job js k in
          let ks = drop (suc k) js in
          let u : (made_of F y t).counter ≡ t + (r - 1) = omega (arith, m.counter, m.count, some-steps w x b y (each_at (JobThere b) js k (inside h) a.there)) in
          let z : k + 1 ≡ suc k = omega arith in
          let v : step_size * at + length (encoded (every (made_of F y t).blocks)) ≡ step_size * (at + r) = omega (arith, encoded-length (every (made_of F y t).blocks), m.steps) in
          let c : encoded (steps_from F (drop k js) t) ≡ encoded (every (made_of F y t).blocks) ++ encoded (steps_from F ks (t + (r - 1)))
          = rw (rest-is h, every_append (made_of F y t).blocks (make F ks (made_of F y t).counter).blocks, u, encoded-append) in
          record {
            below = omega arith;
            size = q ∙ p.size;
            steps = rw z (omega (arith, p.steps, steps-left h, m.count));
            temporaries = rw z (omega (arith, p.temporaries, steps-left h, m.count, m.counter));
            list =
                rw (z, m.list, ← v)
                (sym (write-append l (step_size * at) (encoded (every (made_of F y t).blocks)) (encoded (steps_from F ks (t + (r - 1)))))
                ∙ ap (write l (step_size * at)) (sym c)
                ∙ p.list);
          }

    pub end_is : {l : List ℕ} {at t k : ℕ} → Progress l at t k → n ≤ k → at ≡ at₀ + all_steps F js
    end_is {l} {at} {t} {k} p h = omega (arith, p.steps, ap (all_steps F) (nothing_left p.below h))

    pub finish : {l : List ℕ} {at t k : ℕ} → Progress l at t k → n ≤ k → l ≡ write l₀ (step_size * at₀) (encoded (steps_from F js t₀))
    finish {l} {at} {t} {k} p h = sym (write-none l (step_size * at)) ∙ rw (nothing_left p.below h, encoded-none) at p.list
