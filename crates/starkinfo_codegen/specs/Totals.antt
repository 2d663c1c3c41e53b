-- THE ROOM ALWAYS SUFFICES: the blocks of accepted requests have at most twice as many steps as there are nodes, since no cell is made twice.
-- Each block takes one temporary fewer than it has steps. Assumes nothing.
use Rattle.std.specs.Prelude.{ℕ, zero, suc, ◌+◌, ◌*◌, ◌<◌, ◌≤◌, ◌≡◌, refl, Bool, true, false, ◌&&◌, cond, List, [], ◌∷◌, length, eqb}
use Rattle.std.proofs.Common.{sym, ◌∙◌, ap, subst, arith, length-append, eqb-true, eq-eqb}
use Rattle.std.proofs.Math.Option.{some}
use Rattle.meaning.specs.Refusals.{done}
use Rattle.meaning.specs.Trees.{Forest, Acyclic, nth, Each}
use Rattle.meaning.specs.Trees as meaning
use Rattle.meaning.specs.Steps.{Ref, exp_cell}
use Rattle.meaning.specs.Emission.{Emitted, emit, block_steps}
use Rattle.meaning.specs.Order.{Marks, marking, Job, Asked, asked}
use Rattle.meaning.specs.Generation.{Request, Made, block_of, make}
use Rattle.meaning.specs.Building.{every}
use Rattle.meaning.specs.Asking.{ask_all}
use Rattle.meaning.proofs.Laws.Tests.{true-false, or_right, each_map}
use Rattle.meaning.proofs.Laws.Once.{Chain, all_once, all-rows, all_found}
use Rattle.frames.specs.declared.rest.Expression.{Expression}
use Rattle.frames.specs.Order.{node_limit}
use Rattle.pool.specs.Pool.{Pool, or_else, root_of, root_uses, times}
use Rattle.pool.specs.Trees.{tree, forest}
use Rattle.pool.specs.Shaped.{Shaped}
use Rattle.pool.specs.Laws.Forest.{forest-at}
use Rattle.starkinfo_codegen.specs.Counting.{block-length}
use Rattle.starkinfo_codegen.specs.Sizes.{total, below, once-below, size, block-steps, roots-fit}

-- ── the first block of a list ────────────────────────────────────────────────
-- a job's expression is there
abbrev pub Found : Forest → Job → Type 0
Found E j = (x : meaning.Expression) × (nth E j.expression ≡ some x)

module _ (E : Forest) (j : Job) (js : List Job) (t : ℕ) (f : Found E j) where
  abbrev emitted : Emitted
  emitted = emit (asked j.fused f.0.tree) j.row t

  abbrev cell_ref : Ref
  cell_ref = Ref.var (exp_cell j.expression j.row)

  first_made : make E (j ∷ js) t ≡ record { blocks = block_of j emitted ∷ (make E js emitted.free).blocks; counter = (make E js emitted.free).counter }
  first_made = rw f.1

  first-steps : length (every (make E (j ∷ js) t).blocks) ≡ length (block_steps emitted cell_ref) + length (every (make E js emitted.free).blocks)
  first-steps = ap (λ (z : Made). length (every z.blocks)) first_made ∙ length-append (block_steps emitted cell_ref) _

  first-counter : (make E (j ∷ js) t).counter ≡ (make E js emitted.free).counter
  first-counter = ap (λ (z : Made). z.counter) first_made

-- THE COUNTER: a block takes one temporary fewer than it has steps
pub counter_is :
    (E : Forest) (js : List Job) (t : ℕ) → Each (Found E) js → (make E js t).counter + length js ≡ t + length (every (make E js t).blocks)
counter_is E [] t h = refl
counter_is E (j ∷ js) t h =
    let x = asked j.fused h.0.0.tree in
    omega (
      arith,
      first-counter E j js t h.0,
      first-steps E j js t h.0,
      block-length j.row x t (cell_ref E j js t h.0),
      counter_is E js (emit x j.row t).free h.1,
    )

-- ── the expressions made at a row ────────────────────────────────────────────
unfoldable made_at : ℕ → List Job → List ℕ
made_at r [] = []
made_at r (j ∷ js) = cond (eqb r j.row) (j.expression ∷ made_at r js) (made_at r js)

-- each job is made at one of two rows
both-rows :
    (s : ℕ → ℕ) (j : Job) (js : List Job) → j.row < 2 →
    total s (made_at 0 (j ∷ js)) + total s (made_at 1 (j ∷ js)) ≡ s j.expression + (total s (made_at 0 js) + total s (made_at 1 js))
unfolding made_at total
both-rows s j js h = go j.row h
  where
    go :
        (r : ℕ) → r < 2 →
        total s (cond (eqb 0 r) (j.expression ∷ made_at 0 js) (made_at 0 js)) + total s (cond (eqb 1 r) (j.expression ∷ made_at 1 js) (made_at 1 js))
        ≡ s j.expression + (total s (made_at 0 js) + total s (made_at 1 js))
    go zero h = omega arith
    go (suc zero) h = omega arith
    go (suc (suc r)) h = absurd (omega arith)

-- what holds of each expression
each_at : (P : ℕ → Type 0) (r : ℕ) (js : List Job) → Each (λ j. P j.expression) js → Each P (made_at r js)
unfolding made_at
each_at P r [] h = tt
each_at P r (j ∷ js) h = go (eqb r j.row) (each_at P r js h.1)
  where
    go : (b : Bool) → Each P (made_at r js) → Each P (cond b (j.expression ∷ made_at r js) (made_at r js))
    go true k = (h.0, k)
    go false k = k

-- what is marked is made no more
marked-none : (m : Marks) (js : List Job) (e r : ℕ) → m e r ≡ true → Chain m js → times e (made_at r js) ≡ 0
unfolding made_at
marked-none m [] e r u h = refl
marked-none m (j ∷ js) e r u h =
    go (eqb r j.row) refl (eqb e j.expression) refl (marked-none (marking m j.expression j.row) js e r (or_right (eqb j.expression e && eqb j.row r) (m e r) u) h.1)
  where
    go :
        (a : Bool) → eqb r j.row ≡ a → (b : Bool) → eqb e j.expression ≡ b → times e (made_at r js) ≡ 0 →
        times e (cond a (j.expression ∷ made_at r js) (made_at r js)) ≡ 0
    go true p true q k =
        let x : e ≡ j.expression = eqb-true e j.expression q in
        let y : r ≡ j.row = eqb-true r j.row p in
        let z : m j.expression j.row ≡ false = h.0 in
        absurd (true-false u (cc))
    go true p false q k = rw q k
    go false p b q k = k

-- and nothing is made twice
made-once : (m : Marks) (js : List Job) (e r : ℕ) → Chain m js → times e (made_at r js) ≤ 1
unfolding made_at
made-once m [] e r h = omega arith
made-once m (j ∷ js) e r h =
    let n = marking m j.expression j.row in
    go (eqb r j.row) refl (eqb e j.expression) refl (made-once n js e r h.1) (λ u. marked-none n js e r u h.1)
  where
    go :
        (a : Bool) → eqb r j.row ≡ a → (b : Bool) → eqb e j.expression ≡ b → times e (made_at r js) ≤ 1 →
        (marking m j.expression j.row e r ≡ true → times e (made_at r js) ≡ 0) → times e (cond a (j.expression ∷ made_at r js) (made_at r js)) ≤ 1
    go true p true q k none =
        let x = eq-eqb j.expression e (sym (eqb-true e j.expression q)) in
        let y = eq-eqb j.row r (sym (eqb-true r j.row p)) in
        let z : times e (made_at r js) ≡ 0 = none (rw (x, y)) in
        rw q (omega arith)
    go true p false q k none = rw q k
    go false p b q k none = k

-- ── all expressions ──────────────────────────────────────────────────────────
below-front : (s : ℕ → ℕ) (k : ℕ) → below s (suc k) ≡ s 0 + below (λ e. s (suc e)) k
unfolding below
below-front s zero = omega arith
below-front s (suc k) = omega (arith, below-front s k)

-- a sum over the roots is one over the expressions
roots-below : (s : ℕ → ℕ) (xs : List Expression) → below (λ e. s (or_else (nth xs e) (record { root = 0; flags = 0 })).root) (length xs) ≡ total s (root_uses xs)
unfolding below total
roots-below s [] = refl
roots-below s (x ∷ xs) =
    below-front (λ e. s (or_else (nth (x ∷ xs) e) (record { root = 0; flags = 0 })).root) (length xs) ∙ ap (λ n. s x.root + n) (roots-below s xs)

module _ (p : Pool) (shaped : Shaped p) where
  -- the nodes of an expression
  abbrev nodes_of : ℕ → ℕ
  nodes_of e = size (tree p (root_of p e))

  -- a block has at most as many steps as its expression has nodes
  block-fits : (j : Job) (t : ℕ) (f : Found (forest p) j) (d : Ref) → length (block_steps (emit (asked j.fused f.0.tree) j.row t) d) ≤ nodes_of j.expression
  block-fits j t f d =
      subst (λ e. length (block_steps (emit (asked j.fused f.0.tree) j.row t) d) ≤ size e) (forest-at p j.expression f.0 f.1).1
      (block-steps j.fused f.0.tree j.row t d)

  by_rows :
      (js : List Job) (t : ℕ) → Each (λ j. j.row < 2) js → Each (Found (forest p)) js →
      length (every (make (forest p) js t).blocks) ≤ total nodes_of (made_at 0 js) + total nodes_of (made_at 1 js)
  by_rows [] t h f = omega arith
  by_rows (j ∷ js) t h f =
      omega (
        arith,
        first-steps (forest p) j js t f.0,
        block-fits j t f.0 (cell_ref (forest p) j js t f.0),
        by_rows js (emitted (forest p) j js t f.0).free h.1 f.1,
        both-rows nodes_of j js h.0,
      )

  -- at one row
  row_fits : (m : Marks) (js : List Job) (r : ℕ) → Chain m js → Each (Found (forest p)) js → total nodes_of (made_at r js) ≤ length p.nodes
  row_fits m js r h f =
      let k = length p.expressions in
      let there = each_map (Found (forest p)) (λ j. j.expression < k) (λ j g. (forest-at p j.expression g.0 g.1).0) js f in
      let l = once-below nodes_of (made_at r js) k (each_at (λ e. e < k) r js there) (λ e g. made-once m js e r h) in
      omega (arith, l, roots-below (λ n. size (tree p n)) p.expressions, roots-fit p shaped)

  -- THE BLOCKS OF JOBS, none made twice, have at most twice as many steps as there are nodes
  pub jobs-fit :
      (m : Marks) (js : List Job) (t : ℕ) → Chain m js → Each (λ j. j.row < 2) js → Each (Found (forest p)) js →
      length (every (make (forest p) js t).blocks) ≤ 2 * length p.nodes
  jobs-fit m js t h l f = omega (arith, by_rows js t l f, row_fits m js 0 h f, row_fits m js 1 h f)

  -- AND SO HAVE THOSE OF ACCEPTED REQUESTS
  pub all_fit :
      Acyclic (forest p) → (qs : List Request) (m : Marks) (a : Asked) (t : ℕ) → Each (λ q. q.row < 2) qs → ask_all 2 (forest p) qs m ≡ done a →
      length (every (make (forest p) a.jobs t).blocks) ≤ 2 * length p.nodes
  all_fit acyclic qs m a t l h =
      jobs-fit m a.jobs t (all_once 2 (forest p) acyclic qs m a h) (all-rows 2 (forest p) qs m a l h) (all_found 2 (forest p) qs m a h)

  -- so document 01's room for 8,192 steps suffices for a pool within its limit
  pub room-suffices :
      length p.nodes ≤ node_limit → Acyclic (forest p) → (qs : List Request) (m : Marks) (a : Asked) (t : ℕ) → Each (λ q. q.row < 2) qs →
      ask_all 2 (forest p) qs m ≡ done a → length (every (make (forest p) a.jobs t).blocks) ≤ 8192
  room-suffices few acyclic qs m a t l h = omega (arith, all_fit acyclic qs m a t l h)
