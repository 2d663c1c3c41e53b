-- A CONTEXT AND ITS LIST AFTER A CALL: the bytes that say so much, and every other byte as it was.
-- Assumes nothing.
use Rattle.std.specs.Prelude.{ℕ, zero, suc, ◌+◌, ◌*◌, ◌/◌, ◌%◌, ◌≤◌, ◌≡◌, refl, Bool, ◌&&◌, cond, List, [], ◌∷◌, ◌++◌, length, get_or, take, drop, leb, ltb}
use Rattle.std.proofs.Common.{sym, ◌∙◌, ap, arith, take-suc}
use Rattle.std.proofs.Math.Option.{none}
use Rattle.meaning.specs.Refusals.{Refusal, Answer, done, refused}
use Rattle.meaning.specs.Order.{Marks}
use Rattle.kinds.specs.Write.{write}
use Rattle.kinds.specs.Steps.{step_size, steps_of, steps-length}
use Rattle.frames.specs.Tables.{first}
use Rattle.frames.specs.Packing.{first-length}
use Rattle.starkinfo_codegen.specs.Ordering.{cell_of}
use Rattle.requests.specs.Generating.{number_limit}
use Rattle.builds.specs.Raw.{RawBlock, steps_in, start_of, raw_block_at, raw_blocks, every}
use Rattle.builds.specs.Lists.{every-is}
use Rattle.context.specs.Context.{blocks_at, marks_at, table_at, cells}
use Rattle.context.specs.Tables.{counter_bytes, table_bytes}
use Rattle.context.specs.Held.{stored_in}
use Rattle.codegen.specs.Said.{Said}

-- ── definitions ──────────────────────────────────────────────────────────────
-- a byte for each cell
abbrev pub mark_byte : Marks → ℕ → ℕ
mark_byte m c = cond (m (c / 2) (c % 2)) 1 0

unfoldable pub mark_bytes : Marks → List ℕ
mark_bytes m = first (mark_byte m) cells

-- a block's word: its cell, and 1024 times its steps
abbrev pub raw_word : RawBlock → ℕ
raw_word b = cell_of b.expression b.row + cells * length b.records

abbrev pub raw_words : List RawBlock → List ℕ
raw_words [] = []
raw_words (b ∷ bs) = raw_word b ∷ raw_words bs

-- how many steps there are
abbrev pub step_count : Said → ℕ
step_count st = length (every st.blocks)

-- THE CONTEXT AFTER: counters, marks and block table; the table's entries after the last block are what they were
abbrev pub context_with : List ℕ → Said → List ℕ
context_with x st =
    write (write (write x blocks_at (counter_bytes (length st.blocks) (step_count st) st.counter)) marks_at (mark_bytes st.marks)) table_at
    (table_bytes (raw_words st.blocks))

-- THE LIST AFTER: its first steps are the blocks', and every byte after them is what it was
pub record ListWith (l : List ℕ) (st : Said) (l' : List ℕ) : Type 0 where
  pub size : length l' ≡ length l
  pub steps : steps_of l' (step_count st) ≡ every st.blocks
  pub rest : drop (step_size * step_count st) l' ≡ drop (step_size * step_count st) l

-- 9, last: the steps fit the list, and their number and the counter are numbers of 16 bits
unfoldable pub fits : ℕ → ℕ → ℕ → Bool
fits room steps counter = leb (step_size * steps) room && (ltb steps number_limit && ltb counter number_limit)

abbrev pub fitting : ℕ → Said → Answer Said
fitting room st = cond (fits room (step_count st) st.counter) (done st) (refused Refusal.full none)

-- WHAT STANDS AFTER AN ANSWER: on a refusal every byte is what it was
abbrev pub Stands : Answer Said → List ℕ → List ℕ → List ℕ → List ℕ → Type 0
Stands (done st) x l x' l' = (x' ≡ context_with x st) × ListWith l st l'
Stands (refused k o) x l x' l' = (x' ≡ x) × (l' ≡ l)

-- ── of tables ────────────────────────────────────────────────────────────────
pub raw_word_lem : (t l : List ℕ) (k : ℕ) → raw_word (raw_block_at t l k) ≡ get_or t k 0
raw_word_lem t l k = omega (arith, steps-length (drop (step_size * start_of t k) l) (steps_in (get_or t k 0)))

words_snoc : (xs : List RawBlock) (b : RawBlock) → raw_words (xs ++ (b ∷ [])) ≡ raw_words xs ++ (raw_word b ∷ [])
words_snoc [] b = refl
words_snoc (x ∷ xs) b = ap (λ z. raw_word x ∷ z) (words_snoc xs b)

-- the words of blocks that a table says are the table's
pub raw-words : (t l : List ℕ) (n : ℕ) → n ≤ length t → raw_words (raw_blocks t l n) ≡ take n t
unfolding first
raw-words t l zero h = refl
raw-words t l (suc n) h =
    words_snoc (raw_blocks t l n) (raw_block_at t l n) ∙ rw (raw-words t l n (omega arith), raw_word_lem t l n) (sym (take-suc t n 0 h))

pub raw-count : (t l : List ℕ) (n : ℕ) → length (raw_blocks t l n) ≡ n
raw-count t l n = first-length (raw_block_at t l) n

pub raw-steps : (t l : List ℕ) (n : ℕ) → length (every (raw_blocks t l n)) ≡ start_of t n
raw-steps t l n = ap length (every-is t l n) ∙ steps-length l (start_of t n)

-- THE CONTEXT AFTER, where tables are stored
module _ (x t l : List ℕ) (n counter : ℕ) (m : Marks) (few : n ≤ length t) where
  abbrev after : Said
  after = record { marks = m; blocks = raw_blocks t l n; counter = counter }

  pub stored-with : stored_in x (mark_bytes m) t 0 n (start_of t n) counter ≡ context_with x after
  stored-with = rw (raw-count t l n, raw-steps t l n, raw-words t l n few)

  pub steps-with : (l₀ : List ℕ) → length l ≡ length l₀ → drop (step_size * start_of t n) l ≡ drop (step_size * start_of t n) l₀ → ListWith l₀ after l
  steps-with l₀ e r = record {
    size = e;
    steps = rw (raw-steps t l n) (sym (every-is t l n));
    rest = rw (raw-steps t l n) r;
  }
