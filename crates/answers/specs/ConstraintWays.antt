-- THE ROWS OF THE REFUSAL TABLE for the exported pieces of the constraint, in the order of their checks; as in `Ways.antt`. `ExactConstraint.antt` proves that a call has a number exactly
-- when one of that number's ways is open.
-- Assumes nothing: these are definitions.
use Rattle.std.specs.Prelude.{ℕ, ◌+◌, ◌<◌, ◌≤◌, ◌≡◌, Bool, true, false, List, [], length, get_or, drop}
use Rattle.frames.specs.Order.{Input, expression_limit}
use Rattle.pool.specs.Trees.{forest}
use Rattle.pool.specs.Numbered.{pool_of}
use Rattle.context.specs.Context.{Good}
use Rattle.codegen.specs.Said.{said}
use Rattle.codegen.specs.Written.{step_count, fits}
use Rattle.search_meaning.specs.Search.{all_below}
use Rattle.constraint_meaning.specs.Tree.{columns_from, constraint_tree}
use Rattle.constraint_meaning.specs.Constraint as constraint
use Rattle.constraint_pieces.specs.Marks.{AllBelow}
use Rattle.constraint_pieces.specs.Closed.{closed_said}
use Rattle.constraint_frames.specs.Listing.{set_good}
use Rattle.constraint_frames.specs.Extension.{Question, pool_with, bytes_of}
use Rattle.constraint_host.specs.Exactly.{Absent, SomeBlock}
use Rattle.answers.specs.Ways.{OfFrames, OfPool}

-- ── enonkasse_mark ───────────────────────────────────────────────────────────
module _ (es : List ℕ) (m : ℕ) (x l : List ℕ) where
  pub data MarkWay : ℕ → Type 0 where
    full : expression_limit < m → MarkWay 9
    bad_context : m ≤ expression_limit → (Good x m (length l) → ⊥) → MarkWay 1
    lost : m ≤ expression_limit → Good x m (length l) → Absent m es → MarkWay 3
    marked : m ≤ expression_limit → Good x m (length l) → AllBelow m es → MarkWay 0

-- ── enonkasse_close ──────────────────────────────────────────────────────────
module _ (m : ℕ) (x l : List ℕ) where
  -- the steps with the closing product fit the list
  abbrev pub closed_fits : Bool
  closed_fits = fits (length l) (step_count (closed_said (said x l))) (said x l).counter

  pub data CloseWay : ℕ → Type 0 where
    past : expression_limit < m → CloseWay 9
    bad_context : m ≤ expression_limit → (Good x m (length l) → ⊥) → CloseWay 1
    no_block : m ≤ expression_limit → Good x m (length l) → (said x l).blocks ≡ [] → CloseWay 8
    full : m ≤ expression_limit → Good x m (length l) → SomeBlock m x l (said x l).blocks → closed_fits ≡ false → CloseWay 9
    closed : m ≤ expression_limit → Good x m (length l) → SomeBlock m x l (said x l).blocks → closed_fits ≡ true → CloseWay 0

-- ── enonkasse_constraint_pool ────────────────────────────────────────────────
module _ (q : Question) (room : ℕ) (i : Input) where
  -- there is an identity, and each one's expression is there
  pub record Identified : Type 0 where
    pub some : 0 < length q.identities
    pub there : all_below (length i.expressions) q.identities ≡ true

  -- the pool with the constraint is within its limits
  abbrev pub within_limits : Bool
  within_limits =
      constraint.fits (constraint_tree q.vc (forest (pool_of i)) (length i.nodes) (get_or q.identities 0 0) (drop 1 q.identities) (columns_from q.columns.commitments q.chosen)).free
      (length (forest (pool_of i)) + 1) (q.columns.commitments + length q.chosen + q.columns.quotients)

  abbrev pub frames_size : ℕ
  frames_size = length (bytes_of (pool_with (pool_of i) q))

  pub data Extended : ℕ → Type 0 where
    no_identity : length q.identities ≡ 0 → Extended 17
    lost : 0 < length q.identities → all_below (length i.expressions) q.identities ≡ false → Extended 3
    past : Identified → within_limits ≡ false → Extended 9
    counts : Identified → within_limits ≡ true → q.columns.commitments < q.columns.n_cm1 + q.columns.n_cm2 → Extended 11
    full : Identified → within_limits ≡ true → q.columns.n_cm1 + q.columns.n_cm2 ≤ q.columns.commitments → room < frames_size → Extended 9
    extended : Identified → within_limits ≡ true → q.columns.n_cm1 + q.columns.n_cm2 ≤ q.columns.commitments → frames_size ≤ room → Extended 0

module _ (w : List ℕ) (q : Question) (room : ℕ) (i : Input) where
  pub data ExtendRead : ℕ → Type 0 where
    bad_set : set_good (length i.expressions) w ≡ false → ExtendRead 1
    good_set : {k : ℕ} → set_good (length i.expressions) w ≡ true → OfPool (pool_of i) (λ c. Extended q room i) k → ExtendRead k

abbrev pub ExtendWay : List ℕ → List ℕ → Question → ℕ → ℕ → Type 0
ExtendWay s w q room k = OfFrames s (ExtendRead w q room) k
