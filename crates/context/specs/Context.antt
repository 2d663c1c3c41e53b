-- A CONTEXT: the places of its bytes, what stands there, and when it is good for a pool of m expressions and a list of so many bytes.
-- Assumes nothing: these are definitions.
use Rattle.std.specs.Prelude.{◌≡◌, Bool, true, List, ℕ, zero, suc, ◌+◌, ◌*◌, ◌≤◌, ◌<◌, length, get_or}
use Rattle.kinds.specs.BigEndian.{u16_at}
use Rattle.kinds.specs.Steps.{step_size}
use Rattle.starkinfo_codegen.specs.Ordering.{cell_of}
use Rattle.context.specs.Entries.{entry_size, entry_at}
use Rattle.context.specs.declared.layout.Entry.{Entry}

-- ── places ───────────────────────────────────────────────────────────────────
abbrev pub version_at : ℕ
version_at = 0

abbrev pub mode_at : ℕ
mode_at = 1

abbrev pub rows_at : ℕ
rows_at = 2

abbrev pub spare_at : ℕ
spare_at = 3

abbrev pub blocks_at : ℕ
blocks_at = 4

abbrev pub steps_at : ℕ
steps_at = 6

abbrev pub temporaries_at : ℕ
temporaries_at = 8

abbrev pub marks_at : ℕ
marks_at = 10

-- a cell is an expression, of up to 512, at one of two rows; a block is that of a cell
abbrev pub cells : ℕ
cells = 1024

abbrev pub table_at : ℕ
table_at = 1034

abbrev pub context_size : ℕ
context_size = 7178

-- that of block k
abbrev pub place_of : ℕ → ℕ
place_of k = table_at + entry_size * k

-- ── what stands there ────────────────────────────────────────────────────────
abbrev pub blocks_in : List ℕ → ℕ
blocks_in x = u16_at x blocks_at

abbrev pub steps_in : List ℕ → ℕ
steps_in x = u16_at x steps_at

abbrev pub temporaries_in : List ℕ → ℕ
temporaries_in x = u16_at x temporaries_at

abbrev pub mark_in : List ℕ → ℕ → ℕ
mark_in x c = get_or x (marks_at + c) 0

abbrev pub entry_in : List ℕ → ℕ → Entry
entry_in x k = entry_at x (place_of k)

-- the cell of an entry
abbrev pub entry_cell : Entry → ℕ
entry_cell e = cell_of e.expression e.prime

abbrev pub cell_in : List ℕ → ℕ → ℕ
cell_in x k = entry_cell (entry_in x k)

-- the steps of the first n blocks
abbrev pub steps_before : List ℕ → ℕ → ℕ
steps_before x zero = 0
steps_before x (suc n) = steps_before x n + (entry_in x n).steps

-- ── good ─────────────────────────────────────────────────────────────────────
-- version, mode and rows are those of today
pub record Fixed (x : List ℕ) : Type 0 where
  pub version : get_or x version_at 0 ≡ 0
  pub mode : get_or x mode_at 0 ≡ 0
  pub rows : get_or x rows_at 0 ≡ 2
  pub spare : get_or x spare_at 0 ≡ 0

-- its size, and counts that are not past the room
pub record Head (x : List ℕ) (room : ℕ) : Type 0 where
  pub size : length x ≡ context_size
  pub fixed : Fixed x
  pub few_blocks : blocks_in x ≤ cells
  pub listed : step_size * steps_in x ≤ room

-- a mark is 0 or 1, and 0 for a cell of an expression that the pool does not have
pub record Mark (mark c m : ℕ) : Type 0 where
  pub marked01 : mark ≤ 1
  pub marked_there : 2 * m ≤ c → mark ≡ 0

abbrev pub Marks : List ℕ → ℕ → Type 0
Marks x m = (c : ℕ) → c < cells → Mark (mark_in x c) c m

-- a block's expression is there, its prime is a row, it has a step, and its cell is marked
pub record Block (x : List ℕ) (m k : ℕ) : Type 0 where
  pub there : (entry_in x k).expression < m
  pub in_row : (entry_in x k).prime < 2
  pub some_step : 1 ≤ (entry_in x k).steps
  pub marked : mark_in x (cell_in x k) ≡ 1

abbrev pub Blocks : List ℕ → ℕ → Type 0
Blocks x m = (k : ℕ) → k < blocks_in x → Block x m k

-- no two blocks have the same cell
abbrev pub CellsApart : List ℕ → Type 0
CellsApart x = (i k : ℕ) → i < k → k < blocks_in x → cell_in x i ≡ cell_in x k → ⊥

-- A GOOD CONTEXT. What it does not speak of may be anything: the counter of temporaries, and the block table after the blocks.
pub record Good (x : List ℕ) (m room : ℕ) : Type 0 where
  pub head : Head x room
  pub marks : Marks x m
  pub blocks : Blocks x m
  pub apart : CellsApart x
  pub total : steps_before x (blocks_in x) ≡ steps_in x

-- r is true exactly when P holds
abbrev pub Exactly : Bool → Type 0 → Type 0
Exactly r P = (r ≡ true → P) × (P → r ≡ true)
