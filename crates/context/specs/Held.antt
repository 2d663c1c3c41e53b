-- TABLES THAT HOLD A CONTEXT: marks by cell and a word for each block, beside the counters. A good context is loaded into tables that hold
-- it; stored tables are held by what is written; and whether a context is good can be said of its tables. Assumes nothing.
use Rattle.std.specs.Prelude.{◌≡◌, refl, List, [], ℕ, zero, suc, ◌+◌, ◌*◌, ◌/◌, ◌%◌, ◌≤◌, ◌<◌, length, get_or, take, drop, replicate}
use Rattle.std.proofs.Common.{sym, ◌∙◌, ap, subst, ⊎_elim, arith, length-take, length-drop, length-set, length-take-le, get_or-take, get_or-drop, get_or-set_same, get_or-set_other, ext_get_or}
use Rattle.std.proofs.Math.Decide.{le_ind}
use Rattle.std.proofs.lemmas.List.{length-replicate, get_or_at}
use Rattle.std.proofs.Math.ListN.{get_or-append}
use Rattle.std.proofs.Math.Seq.{slice}
use Rattle.kinds.specs.Steps.{step_size}
use Rattle.frames.specs.Order.{expression_limit}
use Rattle.kinds.specs.BigEndian.{u16_at}
use Rattle.kinds.specs.Write.{write, write-length, write-there}
use Rattle.context.specs.declared.layout.Entry.{Entry}
use Rattle.context.specs.Context.{rows_at, marks_at, blocks_at, steps_at, temporaries_at, cells, context_size, place_of, blocks_in, steps_in, temporaries_in, mark_in, entry_in, entry_cell, cell_in, steps_before, Fixed, Mark, Block, Good}
use Rattle.context.specs.Tables.{marks_in, word_of, entry_of, words_in, words-length, counter_bytes, table_bytes, with_counters, with_marks, with_blocks, fresh_bytes}
use Rattle.context.specs.Zeros.{below_or, zeros-at}
use Rattle.context.specs.Stored as stored

-- THE CONTEXT x IS HELD: its marks, n blocks as words, and its counters
pub record Held (x marks words : List ℕ) (n steps temporaries : ℕ) : Type 0 where
  pub size : length x ≡ context_size
  pub fixed : Fixed x
  pub marked : marks_in x ≡ marks
  pub blocks : blocks_in x ≡ n
  pub listed : steps_in x ≡ steps
  pub counter : temporaries_in x ≡ temporaries
  pub entries : (k : ℕ) → k < n → entry_in x k ≡ entry_of (get_or words k 0)

-- ── good tables ──────────────────────────────────────────────────────────────
-- the cell and the steps of a word
abbrev pub word_cell : ℕ → ℕ
word_cell w = w % cells

abbrev pub word_steps : ℕ → ℕ
word_steps w = w / cells

-- those of the first n words
abbrev pub all_steps : List ℕ → ℕ → ℕ
all_steps words zero = 0
all_steps words (suc n) = all_steps words n + word_steps (get_or words n 0)

pub record Word (marks : List ℕ) (m w : ℕ) : Type 0 where
  pub there : word_cell w < 2 * m
  pub some_step : 1 ≤ word_steps w
  pub marked : get_or marks (word_cell w) 0 ≡ 1

-- WHAT Good SAYS OF A CONTEXT, said of the tables that hold it
pub record Sound (marks words : List ℕ) (n steps m room : ℕ) : Type 0 where
  pub few : n ≤ cells
  pub in_room : step_size * steps ≤ room
  pub marks01 : (c : ℕ) → c < cells → Mark (get_or marks c 0) c m
  pub each_word : (k : ℕ) → k < n → Word marks m (get_or words k 0)
  pub apart : (i k : ℕ) → i < k → k < n → word_cell (get_or words i 0) ≡ word_cell (get_or words k 0) → ⊥
  pub total : all_steps words n ≡ steps

-- ── an entry by its word ─────────────────────────────────────────────────────
pub cell-of-word : (w : ℕ) → entry_cell (entry_of w) ≡ word_cell w
unfolding entry_of
cell-of-word w = omega arith

pub steps-of-word : (w : ℕ) → (entry_of w).steps ≡ word_steps w
unfolding entry_of
steps-of-word w = refl

pub there-of-word : (w m : ℕ) → word_cell w < 2 * m → (entry_of w).expression < m
unfolding entry_of
there-of-word w m h = omega arith

pub row-of-word : (w : ℕ) → (entry_of w).prime < 2
unfolding entry_of
row-of-word w = omega arith

mark_of : (x : List ℕ) (c : ℕ) → c < cells → mark_in x c ≡ get_or (marks_in x) c 0
mark_of x c h = sym (get_or-take cells (drop marks_at x) c 0 h ∙ get_or-drop marks_at x c 0)

module _ (x words : List ℕ) where
  abbrev pub Entries : ℕ → Type 0
  Entries n = (k : ℕ) → k < n → entry_in x k ≡ entry_of (get_or words k 0)

  cell-is : (n : ℕ) → Entries n → (k : ℕ) → k < n → cell_in x k ≡ word_cell (get_or words k 0)
  cell-is n e k h = ap entry_cell (e k h) ∙ cell-of-word (get_or words k 0)

  steps-is : (n : ℕ) → Entries n → (k : ℕ) → k < n → (entry_in x k).steps ≡ word_steps (get_or words k 0)
  steps-is n e k h = ap (λ (y : Entry). y.steps) (e k h) ∙ steps-of-word (get_or words k 0)

  total-is : (n : ℕ) → Entries n → steps_before x n ≡ all_steps words n
  total-is zero e = refl
  total-is (suc n) e =
      let a : steps_before x n ≡ all_steps words n = total-is n (λ k h. e k (omega arith)) in
      let b : (entry_in x n).steps ≡ word_steps (get_or words n 0) = steps-is (suc n) e n (omega arith) in
      omega arith

-- ── good, of the context and of its tables ───────────────────────────────────
module _ (x marks words : List ℕ) (n steps temporaries m room : ℕ) (h : Held x marks words n steps temporaries) where
  mark-is : (c : ℕ) → c < cells → mark_in x c ≡ get_or marks c 0
  mark-is c l = mark_of x c l ∙ ap (λ (s : List ℕ). get_or s c 0) h.marked

  pub sound-good : Sound marks words n steps m room → Good x m room
  sound-good s = record {
    head = record {
      size = h.size;
      fixed = h.fixed;
      few_blocks = omega (arith, h.blocks, s.few);
      listed = omega (arith, h.listed, s.in_room);
    };
    marks = λ c l. subst (λ (v : ℕ). Mark v c m) (sym (mark-is c l)) (s.marks01 c l);
    blocks = λ k l. block k (omega (arith, h.blocks));
    apart = λ i k l r e. s.apart i k l (omega (arith, h.blocks)) (sym (cell-is x words n h.entries i (omega (arith, h.blocks))) ∙ e ∙ cell-is x words n h.entries k (omega (arith, h.blocks)));
    total = ap (steps_before x) h.blocks ∙ total-is x words n h.entries ∙ s.total ∙ sym h.listed;
  }
    where
      block : (k : ℕ) → k < n → Block x m k
      block k l =
          let w = get_or words k 0 in
          let e = h.entries k l in
          let d = s.each_word k l in
          let c = cell-is x words n h.entries k l in
          record {
            there = omega (arith, ap (λ (y : Entry). y.expression) e, there-of-word w m d.there);
            in_row = omega (arith, ap (λ (y : Entry). y.prime) e, row-of-word w);
            some_step = omega (arith, steps-is x words n h.entries k l, d.some_step);
            marked = ap (mark_in x) c ∙ mark-is (word_cell w) (omega arith) ∙ d.marked;
          }

  pub good-sound : Good x m room → Sound marks words n steps m room
  good-sound g = record {
    few = omega (arith, h.blocks, g.head.few_blocks);
    in_room = omega (arith, h.listed, g.head.listed);
    marks01 = λ c l. subst (λ (v : ℕ). Mark v c m) (mark-is c l) (g.marks c l);
    each_word = λ k l. word k l;
    apart = λ i k l r e. g.apart i k l (omega (arith, h.blocks)) (cell-is x words n h.entries i (omega arith) ∙ e ∙ sym (cell-is x words n h.entries k r));
    total = sym (total-is x words n h.entries) ∙ ap (steps_before x) (sym h.blocks) ∙ g.total ∙ h.listed;
  }
    where
      word : (k : ℕ) → k < n → Word marks m (get_or words k 0)
      word k l =
          let b = g.blocks k (omega (arith, h.blocks)) in
          let c = cell-is x words n h.entries k l in
          let w = get_or words k 0 in
          let lt : word_cell w < cells = omega arith in
          record {
            there = omega (arith, c, b.there, b.in_row);
            some_step = omega (arith, steps-is x words n h.entries k l, b.some_step);
            marked = sym (mark-is (word_cell w) lt) ∙ ap (mark_in x) (sym c) ∙ b.marked;
          }

-- ── loaded ───────────────────────────────────────────────────────────────────
pub words-at : (x : List ℕ) (n k : ℕ) → k < n → get_or (words_in x n) k 0 ≡ word_of (entry_in x k)
unfolding words_in
words-at x n k h =
    le_ind (λ n. get_or (words_in x n) k 0 ≡ word_of (entry_in x k))
    (get_or_at (words_in x k) _ [] 0 k (words-length x k))
    (λ n g e. get_or-append (words_in x n) _ 0 k (rw words-length g) ∙ e)
    n h

-- words that say a context's entries are those that it is loaded into
pub held-words : (x words : List ℕ) (n : ℕ) → Entries x words n → n ≤ length words → words_in x n ≡ take n words
held-words x words n e h =
    ext_get_or 0 (words_in x n) (take n words) (words-length x n ∙ sym (length-take-le n words h))
    (λ k l.
    let r : k < n = omega (arith, words-length x n) in
    words-at x n k r ∙ ap word_of (e k r) ∙ stored.word_back (get_or words k 0) ∙ sym (get_or-take n words k 0 r))

-- A GOOD CONTEXT IS HELD by the tables that it is loaded into
pub loaded-held : (x words : List ℕ) (m room : ℕ) → m ≤ expression_limit → length words ≡ cells → Good x m room → Held x (marks_in x) (write words 0 (words_in x (blocks_in x))) (blocks_in x) (steps_in x) (temporaries_in x)
loaded-held x words m room f l g = record {
  size = g.head.size;
  fixed = g.head.fixed;
  marked = refl;
  blocks = refl;
  listed = refl;
  counter = refl;
  entries = entries;
}
  where
    n : ℕ
    n = blocks_in x

    word : (k : ℕ) → k < n → get_or (write words 0 (words_in x n)) k 0 ≡ word_of (entry_in x k)
    word k h =
        let s : length (words_in x n) ≡ n = words-length x n in
        let e : 0 + k ≡ k = omega arith in
        ap (λ (j : ℕ). get_or (write words 0 (words_in x n)) j 0) (sym e)
        ∙ write-there words 0 (words_in x n) k (omega (arith, g.head.few_blocks)) (omega arith)
        ∙ words-at x n k h

    entries : (k : ℕ) → k < n → entry_in x k ≡ entry_of (get_or (write words 0 (words_in x n)) k 0)
    entries k h =
        let b = g.blocks k h in
        sym (ap entry_of (word k h) ∙ stored.entry-back (entry_in x k) (omega (arith, b.there)) b.in_row)

-- ── stored ───────────────────────────────────────────────────────────────────
-- counters, then marks, then the entries from .. to
abbrev pub stored_in : List ℕ → List ℕ → List ℕ → ℕ → ℕ → ℕ → ℕ → List ℕ
stored_in x marks words from to steps temporaries = with_blocks (with_marks (with_counters x to steps temporaries) marks) words from to

-- words with those of the context at the front
pub record Grows (words₀ marks words : List ℕ) (from to : ℕ) : Type 0 where
  pub marks_full : length marks ≡ cells
  pub words_full : length words ≡ cells
  pub forward : from ≤ to
  pub few : to ≤ cells
  pub kept : (k : ℕ) → k < from → get_or words k 0 ≡ get_or words₀ k 0

-- WHAT IS STORED IS HELD
pub stored-held : (x marks₀ words₀ : List ℕ) (from steps₀ temporaries₀ : ℕ) (marks words : List ℕ) (to steps temporaries : ℕ) → Held x marks₀ words₀ from steps₀ temporaries₀ → Grows words₀ marks words from to → Held (stored_in x marks words from to steps temporaries) marks words to steps temporaries
stored-held x marks₀ words₀ from steps₀ temporaries₀ marks words to steps temporaries h g = record {
  size = size₃;
  fixed = stored.fixed_left x₂ (place_of from) (table_bytes (slice from to words)) (omega arith) (stored.fixed_left x₁ marks_at marks (omega arith) (stored.fixed_left x blocks_at (counter_bytes to steps temporaries) (omega arith) h.fixed));
  marked = stored.marks-before-blocks x₂ words from to size₂ g.words_full g.forward g.few ∙ stored.marks-stored x₁ marks size₁ g.marks_full;
  blocks = number blocks_at (omega arith) ∙ stored.blocks-stored x to steps temporaries h.size;
  listed = number steps_at (omega arith) ∙ stored.steps-stored x to steps temporaries h.size;
  counter = number temporaries_at (omega arith) ∙ stored.temporaries-stored x to steps temporaries h.size;
  entries = λ k l. ⊎_elim (λ b. before k b) (λ a. stored.entry-stored x₂ words from to size₂ g.words_full g.forward g.few k a l) (below_or k from);
}
  where
    x₁ : List ℕ
    x₁ = with_counters x to steps temporaries

    x₂ : List ℕ
    x₂ = with_marks x₁ marks

    size₁ : length x₁ ≡ context_size
    size₁ = write-length x blocks_at (counter_bytes to steps temporaries) ∙ h.size

    size₂ : length x₂ ≡ context_size
    size₂ = write-length x₁ marks_at marks ∙ size₁

    size₃ : length (with_blocks x₂ words from to) ≡ context_size
    size₃ = write-length x₂ (place_of from) (table_bytes (slice from to words)) ∙ size₂

    number : (j : ℕ) → j ≤ 8 → u16_at (with_blocks x₂ words from to) j ≡ u16_at x₁ j
    number j l = stored.u16-before-blocks x₂ words from to size₂ g.words_full g.forward g.few j l ∙ stored.u16-before-marks x₁ marks size₁ g.marks_full j l

    before : (k : ℕ) → k < from → entry_in (with_blocks x₂ words from to) k ≡ entry_of (get_or words k 0)
    before k l =
        stored.entry-before x₂ words from to size₂ g.words_full g.forward g.few k l
        ∙ stored.entry-past-marks x₁ marks size₁ g.marks_full k
        ∙ stored.entry-past-counters x to steps temporaries h.size k
        ∙ h.entries k l
        ∙ ap entry_of (sym (g.kept k l))

-- A GOOD CONTEXT STAYS GOOD where the tables that are stored are sound and have its blocks at the front
pub stored-good : (x zeros marks words : List ℕ) (to steps temporaries m room₀ room : ℕ) → m ≤ expression_limit → length zeros ≡ cells → Good x m room₀ → Grows (write zeros 0 (words_in x (blocks_in x))) marks words (blocks_in x) to → Sound marks words to steps m room → Good (stored_in x marks words (blocks_in x) to steps temporaries) m room
stored-good x zeros marks words to steps temporaries m room₀ room f z g w s =
    sound-good (stored_in x marks words (blocks_in x) to steps temporaries) marks words to steps temporaries m room
    (stored-held x (marks_in x) (write zeros 0 (words_in x (blocks_in x))) (blocks_in x) (steps_in x) (temporaries_in x) marks words to steps temporaries (loaded-held x zeros m room₀ f z g) w)
    s

-- ── fresh ────────────────────────────────────────────────────────────────────
fresh_at : (n j : ℕ) → (j ≡ rows_at → ⊥) → get_or (fresh_bytes n) j 0 ≡ 0
unfolding fresh_bytes
fresh_at n j h = get_or-set_other (replicate n 0) rows_at j 2 0 h ∙ zeros-at n j

fresh-length : (n : ℕ) → length (fresh_bytes n) ≡ n
unfolding fresh_bytes
fresh-length n = length-set (replicate n 0) rows_at 2 ∙ length-replicate n 0

fresh-rows : (n : ℕ) → 2 < n → get_or (fresh_bytes n) rows_at 0 ≡ 2
unfolding fresh_bytes
fresh-rows n h = get_or-set_same (replicate n 0) rows_at 2 0 (rw length-replicate h)

fresh-number : (n j : ℕ) → 3 ≤ j → u16_at (fresh_bytes n) j ≡ 0
unfolding u16_at
fresh-number n j h = omega (arith, fresh_at n j (λ e. omega arith), fresh_at n (j + 1) (λ e. omega arith))

fresh-part : (n i c : ℕ) → 3 ≤ i → i + c ≤ n → take c (drop i (fresh_bytes n)) ≡ replicate c 0
fresh-part n i c h l =
    let s : length (fresh_bytes n) ≡ n = fresh-length n in
    let e : length (take c (drop i (fresh_bytes n))) ≡ c = simp (length-take, length-drop) (omega arith) in
    ext_get_or 0 (take c (drop i (fresh_bytes n))) (replicate c 0) (e ∙ sym (length-replicate c 0))
    (λ k q.
    let r : k < c = omega arith in
    get_or-take c (drop i (fresh_bytes n)) k 0 r ∙ get_or-drop i (fresh_bytes n) k 0 ∙ fresh_at n (i + k) (λ z. omega arith) ∙ sym (zeros-at c k))

-- A FRESH CONTEXT holds no mark, no block, no step and no temporary
pub fresh-held : (words : List ℕ) → Held (fresh_bytes context_size) (replicate cells 0) words 0 0 0
fresh-held words = record {
  size = fresh-length context_size;
  fixed = record {
    version = fresh_at context_size 0 (λ e. omega arith);
    mode = fresh_at context_size 1 (λ e. omega arith);
    rows = fresh-rows context_size (omega arith);
    spare = fresh_at context_size 3 (λ e. omega arith);
  };
  marked = fresh-part context_size marks_at cells (omega arith) (omega arith);
  blocks = fresh-number context_size blocks_at (omega arith);
  listed = fresh-number context_size steps_at (omega arith);
  counter = fresh-number context_size temporaries_at (omega arith);
  entries = λ k h. absurd (omega arith);
}

-- and is good for every pool and list
pub fresh-good : (m room : ℕ) → Good (fresh_bytes context_size) m room
fresh-good m room =
    sound-good (fresh_bytes context_size) (replicate cells 0) [] 0 0 0 m room (fresh-held [])
    record {
      few = omega arith;
      in_room = omega arith;
      marks01 = λ c l. let z = zeros-at cells c in record { marked01 = omega arith; marked_there = λ h. z };
      each_word = λ k l. absurd (omega arith);
      apart = λ i k l r e. omega arith;
      total = refl;
    }
