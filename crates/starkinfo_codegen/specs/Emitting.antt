-- What emission asks of a pool that stands in tables, and what it gives: the bytes of `emit`, and how many steps they are.
-- Assumes nothing: these are definitions.
use Rattle.std.specs.Prelude.{ℕ, ◌+◌, ◌*◌, ◌<◌, ◌≤◌, ◌≡◌, Bool, cond, List, length, eqb, ltb}
use Rattle.meaning.specs.Trees.{Expr}
use Rattle.meaning.specs.Steps.{Ref, Step, exp_cell}
use Rattle.meaning.specs.Emission.{emit, block_steps}
use Rattle.meaning.specs.Order.{asked}
use Rattle.kinds.specs.Write.{write}
use Rattle.kinds.specs.Steps.{step_size}
use Rattle.pool.specs.Pool.{Pool}
use Rattle.pool.specs.Trees.{tree}
use Rattle.pool.specs.Shaped.{Shaped}
use Rattle.pool.specs.Tabled.{Tables, tabled}
use Rattle.starkinfo_codegen.specs.Words.{node_of_words}
use Rattle.starkinfo_codegen.specs.Encoding.{encoded}
use Rattle.starkinfo_codegen.specs.Operations.{literal}
use Rattle.starkinfo_codegen.specs.Plans.{Part, under, brought, absent, part_ops, part_steps}

-- what of a pool does not stand in the table of its nodes: emission never looks at it
pub record Rest : Type 0 where
  pub literals : List ℕ
  pub expressions : List ℕ
  pub node_count : ℕ
  pub expression_count : ℕ

abbrev pub tables_of : List ℕ → Rest → Tables
tables_of w b = record { nodes = w; literals = b.literals; expressions = b.expressions; node_count = b.node_count; expression_count = b.expression_count }

abbrev pub pool_of : List ℕ → Rest → Pool
pool_of w b = tabled (tables_of w b)

-- a pool with the shape of an admitted one, whose numbers fit
pub record Pooled (w : List ℕ) (b : Rest) : Type 0 where
  pub shaped : Shaped (pool_of w b)
  pub few : b.node_count ≤ 4096

-- every row that a node reads, from this row on, fits a byte
abbrev pub RowFits : List ℕ → Rest → ℕ → Type 0
RowFits w b row = (n : ℕ) → n < b.node_count → row + (node_of_words w n).next ≤ 255

module _ (w : List ℕ) (b : Rest) (fused : Bool) where
  -- the tree that is emitted for a node
  abbrev pub tree_of : ℕ → Expr
  tree_of i = asked fused (tree (pool_of w b) i)

  -- what a number of an operand stands for
  unfoldable pub part_of : ℕ → Part
  part_of i = cond (ltb i 4096) (under (tree_of i)) (cond (eqb i literal) brought absent)

  abbrev pub taken : ℕ → ℕ
  taken i = part_ops (part_of i)

  -- the node of an operand is there
  abbrev pub There : ℕ → Type 0
  There i = i < 4096 → i < b.node_count

  -- ── counting ───────────────────────────────────────────────────────────────
  pub record CountAsks (i : ℕ) : Type 0 where
    pub pool : Pooled w b
    pub there : There i
    pub few : taken i ≤ 4096

  -- ── an operand ─────────────────────────────────────────────────────────────
  module _ (row : ℕ) where
    -- from step number `at` and temporary t on, in a list of so many bytes
    pub record Asks (at t i room : ℕ) : Type 0 where
      pub pool : Pooled w b
      pub rows : RowFits w b row
      pub there : There i
      pub fits : step_size * (at + taken i) ≤ room
      pub temporaries : t + taken i ≤ 65536

    pub record Gives (at t i : ℕ) (l l' : List ℕ) (r : ℕ) : Type 0 where
      pub list : l' ≡ write l (step_size * at) (encoded (part_steps row (part_of i) t))
      pub count : r ≡ taken i

  -- ── a block ────────────────────────────────────────────────────────────────
  -- how many steps it has and, with its root's own taken away, how many temporaries, from wherever they start
  pub record Sizes (root r : ℕ) : Type 0 where
    pub steps : (row t : ℕ) (d : Ref) → r ≡ length (block_steps (emit (tree_of root) row t) d)
    pub counter : (row t : ℕ) → (emit (tree_of root) row t).free + 1 ≡ t + r
    pub few : r ≤ 4096

  module _ (row t root e : ℕ) where
    -- THE BLOCK of expression e, with that root, at a row, from temporary t on
    abbrev pub steps_of_block : List Step
    steps_of_block = block_steps (emit (tree_of root) row t) (Ref.var (exp_cell e row))

    pub record BlockAsks (at room : ℕ) : Type 0 where
      pub pool : Pooled w b
      pub rows : RowFits w b row
      pub there : root < b.node_count
      pub fits : step_size * (at + length steps_of_block) ≤ room
      pub counter : (emit (tree_of root) row t).free ≤ 65535

    pub record BlockGives (at : ℕ) (l l' : List ℕ) (r : ℕ) : Type 0 where
      pub list : l' ≡ write l (step_size * at) (encoded steps_of_block)
      pub count : r ≡ length steps_of_block
      pub counter : (emit (tree_of root) row t).free + 1 ≡ t + r

-- for whichever rest of a pool: one is asked for, and the answer holds of all
abbrev pub CountAsked : List ℕ → Bool → ℕ → Type 0
CountAsked w fused i = (b : Rest) × CountAsks w b fused i

abbrev pub CountGiven : List ℕ → Bool → ℕ → ℕ → Type 0
CountGiven w fused i r = (b : Rest) → CountAsks w b fused i → r ≡ taken w b fused i

abbrev pub Asked : List ℕ → Bool → ℕ → ℕ → ℕ → ℕ → ℕ → Type 0
Asked w fused row at t i room = (b : Rest) × Asks w b fused row at t i room

-- of a node
abbrev pub StepAsked : List ℕ → Bool → ℕ → ℕ → ℕ → ℕ → ℕ → Type 0
StepAsked w fused row at t i room = Asked w fused row at t i room × (i < 4096)

abbrev pub Given : List ℕ → Bool → ℕ → ℕ → ℕ → ℕ → List ℕ → List ℕ → ℕ → Type 0
Given w fused row at t i l l' r = (b : Rest) → Asks w b fused row at t i (length l) → Gives w b fused row at t i l l' r

abbrev pub SizeAsked : List ℕ → ℕ → Type 0
SizeAsked w root = (b : Rest) × Pooled w b × (root < b.node_count)

abbrev pub SizeGiven : List ℕ → Bool → ℕ → ℕ → Type 0
SizeGiven w fused root r = (b : Rest) → Pooled w b → root < b.node_count → Sizes w b fused root r

abbrev pub BlockAsked : List ℕ → Bool → ℕ → ℕ → ℕ → ℕ → ℕ → ℕ → Type 0
BlockAsked w fused row t root e at room = (b : Rest) × BlockAsks w b fused row t root e at room

abbrev pub BlockGiven : List ℕ → Bool → ℕ → ℕ → ℕ → ℕ → ℕ → List ℕ → List ℕ → ℕ → Type 0
BlockGiven w fused row t root e at l l' r =
    (b : Rest) → BlockAsks w b fused row t root e at (length l) → BlockGives w b fused row t root e at l l' r
