-- A build by block number, as it is made from tables: which cells stand, which blocks are skipped, and the steps that a list takes.
-- Assumes nothing: these are definitions.
use Rattle.std.specs.Prelude.{ℕ, zero, suc, ◌+◌, ◌*◌, ◌/◌, ◌%◌, ◌<◌, ◌≤◌, Bool, false, ◌&&◌, cond, List, [], ◌++◌, get_or, set, eqb, ltb}
use Rattle.kinds.specs.Steps.{step_size}
use Rattle.kinds.specs.declared.step.Step.{Step}
use Rattle.builds.specs.Raw.{cell_in, steps_in, start_of, records_from, flagged_in}
use Rattle.builds.specs.declared.blocks.Block.{Block}
use Rattle.builds.specs.declared.build.Which.{Which}
use Rattle.builds.specs.declared.build.Which.TheVariants as which

-- what a word says of a block
abbrev pub block_in : ℕ → Block
block_in word = record { expression = cell_in word / 2; row = cell_in word % 2; steps = steps_in word }

-- ── which cells stand ────────────────────────────────────────────────────────
-- the cells of the first n blocks of table t, noted in s
unfoldable pub stand_to : List ℕ → ℕ → List ℕ → List ℕ
stand_to t zero s = s
stand_to t (suc n) s = set (stand_to t n s) (cell_in (get_or t n 0)) 1

abbrev pub stands : List ℕ → ℕ → Bool
stands s c = ltb 0 (get_or s c 0)

-- ── which blocks are skipped ─────────────────────────────────────────────────
-- e is in E
unfoldable pub in_table : List ℕ → ℕ → List ℕ → ℕ → Bool
in_table x m s e = flagged_in x m e && (stands s (2 * e) && stands s (2 * e + 1))

-- a block at such a row, where its number is in E or not
unfoldable pub skips_in : Which → Bool → ℕ → Bool
skips_in which.First inside row = false
skips_in which.I inside row = inside && eqb row 0
skips_in which.Last inside row = inside

-- BLOCK NUMBER k
abbrev pub skips_at : List ℕ → List ℕ → ℕ → List ℕ → Which → ℕ → Bool
skips_at t x m s w k = skips_in w (in_table x m s k) (block_in (get_or t k 0)).row

-- ── what a list takes ────────────────────────────────────────────────────────
-- how many steps of block number k
unfoldable pub taken_at : (ℕ → Bool) → List ℕ → ℕ → ℕ
taken_at skips t k = cond (skips k) 0 (steps_in (get_or t k 0))

-- and of the first n blocks
unfoldable pub taken_to : (ℕ → Bool) → List ℕ → ℕ → ℕ
taken_to skips t zero = 0
taken_to skips t (suc n) = taken_to skips t n + taken_at skips t n

unfoldable pub list_to : (ℕ → Bool) → List ℕ → List ℕ → ℕ → List Step
list_to skips t l zero = []
list_to skips t l (suc n) = list_to skips t l n ++ records_from l (start_of t n) (taken_at skips t n)

-- ── what is asked ────────────────────────────────────────────────────────────
pub record CopyStepsAsks (room room' from to count : ℕ) : Type 0 where
  pub there : step_size * (from + count) ≤ room
  pub fits : step_size * (to + count) ≤ room'

pub record TakenAsks (m k : ℕ) : Type 0 where
  pub expressions : m ≤ 512
  pub there : k < 1024

-- n blocks of table t, whose steps can be counted, and m expressions
pub record BlocksAsk (t : List ℕ) (n m : ℕ) : Type 0 where
  pub few : n ≤ 1024
  pub expressions : m ≤ 512
  pub steps : start_of t n ≤ 65535

-- the list has the steps of the blocks, and there is room for those that are taken
pub record CopyTakenAsks (t x s : List ℕ) (n m : ℕ) (w : Which) (room room' : ℕ) : Type 0 where
  pub blocks : BlocksAsk t n m
  pub there : step_size * start_of t n ≤ room
  pub fits : step_size * taken_to (skips_at t x m s w) t n ≤ room'
