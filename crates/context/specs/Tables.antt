-- The tables that hold a context inside: the marks by cell, and a word for each block, its cell and 1024 times its steps.
-- What loading gives, what storing writes, and the bytes of a fresh context. Assumes nothing.
use Rattle.std.specs.Prelude.{◌≡◌, refl, Bool, cond, List, [], ◌∷◌, ◌++◌, ℕ, zero, suc, ◌+◌, ◌*◌, ◌/◌, ◌%◌, ◌≤◌, ◌<◌, length, get_or, set, take, drop, replicate, eqb}
use Rattle.std.proofs.Common.{◌∙◌, length-append, arith}
use Rattle.std.proofs.Math.Seq.{slice}
use Rattle.kinds.specs.Write.{write}
use Rattle.frames.specs.Order.{expression_limit}
use Rattle.kinds.specs.BigEndian.{u16_bytes}
use Rattle.context.specs.Entries.{entry_bytes}
use Rattle.context.specs.Context.{rows_at, blocks_at, marks_at, cells, context_size, place_of, blocks_in, entry_in, entry_cell, cell_in}
use Rattle.context.specs.declared.layout.Entry.{Entry}

-- ── marks ────────────────────────────────────────────────────────────────────
abbrev pub marks_in : List ℕ → List ℕ
marks_in x = take cells (drop marks_at x)

-- ── words of blocks ──────────────────────────────────────────────────────────
unfoldable pub word_of : Entry → ℕ
word_of e = entry_cell e + cells * e.steps

-- the entry that a word says
unfoldable pub entry_of : ℕ → Entry
entry_of w = record { expression = w % cells / 2; prime = w % 2; steps = w / cells }

-- those of the first n blocks
unfoldable pub words_in : List ℕ → ℕ → List ℕ
words_in x zero = []
words_in x (suc n) = words_in x n ++ (word_of (entry_in x n) ∷ [])

pub words-length : (x : List ℕ) (n : ℕ) → length (words_in x n) ≡ n
unfolding words_in
words-length x zero = refl
words-length x (suc n) = length-append (words_in x n) _ ∙ rw (words-length x n) (omega arith)

-- the bytes of words' entries, one after the other
unfoldable pub table_bytes : List ℕ → List ℕ
table_bytes [] = []
table_bytes (w ∷ ws) = entry_bytes (entry_of w) ++ table_bytes ws

-- r is a number of two bytes that is read
pub record Read16 (v r : ℕ) : Type 0 where
  pub is : r ≡ v
  pub small : r < 65536

-- ── what is asked ────────────────────────────────────────────────────────────
pub record EntryAsks (x : List ℕ) (k : ℕ) : Type 0 where
  pub size : length x ≡ context_size
  pub inside : k < cells

-- a context of its size, with no more blocks than it has room for
pub record Tabled (x : List ℕ) : Type 0 where
  pub size : length x ≡ context_size
  pub few : blocks_in x ≤ cells

pub record MarksChecked (x : List ℕ) (m : ℕ) : Type 0 where
  pub size : length x ≡ context_size
  pub few : m ≤ expression_limit

pub record BlockChecked (x : List ℕ) (k m : ℕ) : Type 0 where
  pub entry : EntryAsks x k
  pub few : m ≤ expression_limit

pub record BlocksChecked (x : List ℕ) (m : ℕ) : Type 0 where
  pub context : Tabled x
  pub few : m ≤ expression_limit

pub record CellsChecked (x : List ℕ) : Type 0 where
  pub context : Tabled x
  pub cell : (k : ℕ) → k < blocks_in x → cell_in x k < cells

-- beside it a table of words or marks in full
pub record LoadAsks (x table : List ℕ) : Type 0 where
  pub context : Tabled x
  pub full : length table ≡ cells

pub record MarksAsk (x marks : List ℕ) : Type 0 where
  pub size : length x ≡ context_size
  pub full : length marks ≡ cells

pub record CountersAsk (x : List ℕ) (blocks steps temporaries : ℕ) : Type 0 where
  pub size : length x ≡ context_size
  pub blocks16 : blocks < 65536
  pub steps16 : steps < 65536
  pub temporaries16 : temporaries < 65536

pub record StoreAsks (x words : List ℕ) (from to : ℕ) : Type 0 where
  pub size : length x ≡ context_size
  pub full : length words ≡ cells
  pub forward : from ≤ to
  pub few : to ≤ cells
  pub steps16 : (k : ℕ) → from ≤ k → k < to → get_or words k 0 / cells < 65536

-- ── what is written ──────────────────────────────────────────────────────────
unfoldable pub counter_bytes : ℕ → ℕ → ℕ → List ℕ
counter_bytes blocks steps temporaries = u16_bytes blocks ++ u16_bytes steps ++ u16_bytes temporaries

abbrev pub with_counters : List ℕ → ℕ → ℕ → ℕ → List ℕ
with_counters x blocks steps temporaries = write x blocks_at (counter_bytes blocks steps temporaries)

abbrev pub with_marks : List ℕ → List ℕ → List ℕ
with_marks x marks = write x marks_at marks

-- entries from .. to of the table are those of the words
abbrev pub with_blocks : List ℕ → List ℕ → ℕ → ℕ → List ℕ
with_blocks x words from to = write x (place_of from) (table_bytes (slice from to words))

-- A FRESH CONTEXT: all bytes are 0 but that of rows; n is the size of a context
unfoldable pub fresh_bytes : ℕ → List ℕ
fresh_bytes n = set (replicate n 0) rows_at 2

pub record Freshened (x x' : List ℕ) (r : Bool) : Type 0 where
  pub answer : r ≡ eqb (length x) context_size
  pub bytes : x' ≡ cond (eqb (length x) context_size) (fresh_bytes context_size) x
