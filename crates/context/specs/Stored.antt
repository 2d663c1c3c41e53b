-- WHAT IS STORED IS READ BACK, and nothing else changes: counters, marks and entries written into a context.
-- Assumes nothing.
use Rattle.std.specs.Prelude.{◌≡◌, refl, List, [], ◌∷◌, ◌++◌, ℕ, zero, suc, ◌+◌, ◌-◌, ◌*◌, ◌/◌, ◌%◌, ◌≤◌, ◌<◌, length, get_or, take, drop}
use Rattle.std.proofs.Common.{sym, ◌∙◌, ap, append_assoc, inl, inr, arith, length-append, length-take, length-drop, take_at, drop_at, get_or-take, get_or-drop, ext_get_or}
use Rattle.std.proofs.Math.Nat.{div-add-mod'}
use Rattle.std.proofs.Math.Seq.{slice, length-slice}
use Rattle.kinds.specs.Write.{write, write-is, write-append, write-length, write-there, write-before, write-after}
use Rattle.kinds.specs.Records.{Same, Apart, same-written, put-read, put-kept}
use Rattle.frames.specs.Order.{expression_limit}
use Rattle.kinds.specs.BigEndian.{u16_at, u16_bytes, u16_layout, u16-part}
use Rattle.context.specs.declared.layout.Entry.{Entry}
use Rattle.context.specs.Entries.{entry_size, entry_at, entry_bytes, entry-sized, entry_layout}
use Rattle.context.specs.Context.{marks_at, cells, context_size, place_of, blocks_in, steps_in, temporaries_in, mark_in, entry_in, entry_cell, Fixed}
use Rattle.context.specs.Tables.{marks_in, word_of, entry_of, table_bytes, counter_bytes, with_counters, with_marks, with_blocks}

-- ── a word and its entry ─────────────────────────────────────────────────────
pub word_back : (w : ℕ) → word_of (entry_of w) ≡ w
unfolding word_of entry_of
word_back w = omega arith

pub entry-back : (e : Entry) → e.expression < expression_limit → e.prime < 2 → entry_of (word_of e) ≡ e
unfolding word_of entry_of
entry-back e h g =
    let w = entry_cell e + cells * e.steps in
    let a : w % cells / 2 ≡ e.expression = omega arith in
    let b : w % 2 ≡ e.prime = omega arith in
    let c : w / cells ≡ e.steps = omega arith in
    rw (a, b, c)

-- ── what a write leaves ──────────────────────────────────────────────────────
module _ (x : List ℕ) (i : ℕ) (ws : List ℕ) where
  pub byte_left : (j : ℕ) → Apart i (length ws) j 1 → get_or (write x i ws) j 0 ≡ get_or x j 0
  byte_left j (inl h) = write-before x i ws j (omega arith)
  byte_left j (inr h) = write-after x i ws j h

  pub u16-left : (j : ℕ) → Apart i (length ws) j 2 → u16_at (write x i ws) j ≡ u16_at x j
  u16-left j h = put-kept u16_layout x i ws j h

  pub entry-left : (j : ℕ) → Apart i (length ws) j entry_size → entry_at (write x i ws) j ≡ entry_at x j
  entry-left j h = put-kept entry_layout x i ws j h

  -- n numbers from j on
  pub part_left : (j n : ℕ) → Apart i (length ws) j n → take n (drop j (write x i ws)) ≡ take n (drop j x)
  part_left j n h =
      ext_get_or 0 (take n (drop j (write x i ws))) (take n (drop j x))
      (simp (length-take, length-drop, write-length))
      (λ k l. at k (let z : k < n = omega (arith, simp length-take at l) in z))
    where
      within : (k : ℕ) → k < n → Apart i (length ws) j n → Apart i (length ws) (j + k) 1
      within k l (inl a) = inl (omega arith)
      within k l (inr a) = inr (omega arith)

      at : (k : ℕ) → k < n → get_or (take n (drop j (write x i ws))) k 0 ≡ get_or (take n (drop j x)) k 0
      at k l =
          get_or-take n (drop j (write x i ws)) k 0 l ∙ get_or-drop j (write x i ws) k 0
          ∙ byte_left (j + k) (within k l h)
          ∙ sym (get_or-take n (drop j x) k 0 l ∙ get_or-drop j x k 0)

  -- version, mode, rows and the spare byte
  pub fixed_left : 4 ≤ i → Fixed x → Fixed (write x i ws)
  fixed_left h f = record {
    version = write-before x i ws 0 (omega arith) ∙ f.version;
    mode = write-before x i ws 1 (omega arith) ∙ f.mode;
    rows = write-before x i ws 2 (omega arith) ∙ f.rows;
    spare = write-before x i ws 3 (omega arith) ∙ f.spare;
  }

-- what is written is there
pub part-written : (l : List ℕ) (i n : ℕ) (ws : List ℕ) → length ws ≡ n → i + n ≤ length l → take n (drop i (write l i ws)) ≡ ws
part-written l i n ws e h =
    let f : i + length ws ≤ length l = rw e h in
    let g : length (take i l) ≡ i = simp length-take (omega arith) in
    ap (λ (y : List ℕ). take n (drop i y)) (write-is l i ws f)
    ∙ ap (λ (y : List ℕ). take n (drop i y)) (append_assoc (take i l) ws (drop (i + length ws) l))
    ∙ ap (take n) (drop_at (take i l) (ws ++ drop (i + length ws) l) i g)
    ∙ take_at ws (drop (i + length ws) l) n e

-- ── counters ─────────────────────────────────────────────────────────────────
pub counters-sized : (b s t : ℕ) → length (counter_bytes b s t) ≡ 6
unfolding counter_bytes u16_bytes
counters-sized b s t = refl

module _ (x : List ℕ) (b s t : ℕ) (size : length x ≡ context_size) where
  written : Same 6 (with_counters x b s t) 4 (counter_bytes b s t) 0
  written = rw (counters-sized b s t) at (same-written x 4 (counter_bytes b s t) (rw (counters-sized b s t) (omega arith)))

  pub blocks-stored : blocks_in (with_counters x b s t) ≡ b
  unfolding counter_bytes u16_bytes u16_at
  blocks-stored = u16-part 6 (with_counters x b s t) 4 (counter_bytes b s t) 0 0 (omega arith) written ∙ simp div-add-mod'

  pub steps-stored : steps_in (with_counters x b s t) ≡ s
  unfolding counter_bytes u16_bytes u16_at
  steps-stored = u16-part 6 (with_counters x b s t) 4 (counter_bytes b s t) 0 2 (omega arith) written ∙ simp div-add-mod'

  pub temporaries-stored : temporaries_in (with_counters x b s t) ≡ t
  unfolding counter_bytes u16_bytes u16_at
  temporaries-stored = u16-part 6 (with_counters x b s t) 4 (counter_bytes b s t) 0 4 (omega arith) written ∙ simp div-add-mod'

  pub marks-past-counters : marks_in (with_counters x b s t) ≡ marks_in x
  marks-past-counters = part_left x 4 (counter_bytes b s t) marks_at cells (inr (rw (counters-sized b s t) (omega arith)))

  pub entry-past-counters : (k : ℕ) → entry_in (with_counters x b s t) k ≡ entry_in x k
  entry-past-counters k = entry-left x 4 (counter_bytes b s t) (place_of k) (inr (rw (counters-sized b s t) (omega arith)))

-- ── marks ────────────────────────────────────────────────────────────────────
pub marks-full : (x : List ℕ) → length x ≡ context_size → length (marks_in x) ≡ cells
marks-full x h = simp (length-take, length-drop) (omega arith)

module _ (x s : List ℕ) (size : length x ≡ context_size) (full : length s ≡ cells) where
  pub marks-stored : marks_in (with_marks x s) ≡ s
  marks-stored = part-written x marks_at cells s full (omega arith)

  pub mark-stored : (c : ℕ) → c < cells → mark_in (with_marks x s) c ≡ get_or s c 0
  mark-stored c h = write-there x marks_at s c (omega arith) (omega arith)

  pub u16-before-marks : (j : ℕ) → j ≤ 8 → u16_at (with_marks x s) j ≡ u16_at x j
  u16-before-marks j h = u16-left x marks_at s j (inl (omega arith))

  pub entry-past-marks : (k : ℕ) → entry_in (with_marks x s) k ≡ entry_in x k
  entry-past-marks k = entry-left x marks_at s (place_of k) (inr (omega arith))

-- ── entries ──────────────────────────────────────────────────────────────────
pub table-length : (ws : List ℕ) → length (table_bytes ws) ≡ entry_size * length ws
unfolding table_bytes
table-length [] = refl
table-length (w ∷ ws) = length-append (entry_bytes (entry_of w)) (table_bytes ws) ∙ rw (entry-sized (entry_of w), table-length ws) (omega arith)

pub table_at : (x : List ℕ) (i : ℕ) (ws : List ℕ) (k : ℕ) → i + entry_size * length ws ≤ length x → k < length ws → entry_at (write x i (table_bytes ws)) (i + entry_size * k) ≡ entry_of (get_or ws k 0)
unfolding table_bytes
table_at x i [] k h l = absurd (omega arith)
table_at x i (w ∷ ws) zero h l =
    let z : i + 6 * 0 ≡ i = omega arith in
    ap (λ (y : List ℕ). entry_at y (i + 6 * 0)) (write-append x i (entry_bytes (entry_of w)) (table_bytes ws))
    ∙ rw (z, entry-sized (entry_of w)) (entry-left (write x i (entry_bytes (entry_of w))) (i + 6) (table_bytes ws) i (inl (omega arith)) ∙ put-read entry_layout x i (entry_of w) (omega arith))
table_at x i (w ∷ ws) (suc k) h l =
    let z : i + 6 * suc k ≡ i + 6 + 6 * k = omega arith in
    ap (λ (y : List ℕ). entry_at y (i + 6 * suc k)) (write-append x i (entry_bytes (entry_of w)) (table_bytes ws))
    ∙ rw (z, entry-sized (entry_of w)) (table_at (write x i (entry_bytes (entry_of w))) (i + 6) ws k (rw write-length (omega arith)) (omega arith))

module _ (x words : List ℕ) (from to : ℕ) (size : length x ≡ context_size) (full : length words ≡ cells) (forward : from ≤ to) (few : to ≤ cells) where
  part-sized : length (slice from to words) ≡ to - from
  part-sized = length-slice from to words (omega arith)

  bytes-sized : length (table_bytes (slice from to words)) ≡ entry_size * (to - from)
  bytes-sized = table-length (slice from to words) ∙ ap (λ (n : ℕ). 6 * n) part-sized

  pub entry-stored : (k : ℕ) → from ≤ k → k < to → entry_in (with_blocks x words from to) k ≡ entry_of (get_or words k 0)
  entry-stored k a b =
      let s = part-sized in
      let d : from + (k - from) ≡ k = omega arith in
      let p : place_of k ≡ place_of from + 6 * (k - from) = omega arith in
      let g : get_or (slice from to words) (k - from) 0 ≡ get_or words k 0 = get_or-drop from (take to words) (k - from) 0 ∙ ap (λ (j : ℕ). get_or (take to words) j 0) d ∙ get_or-take to words k 0 b in
      ap (entry_at (with_blocks x words from to)) p
      ∙ table_at x (place_of from) (slice from to words) (k - from) (omega arith) (omega arith)
      ∙ ap entry_of g

  pub entry-before : (k : ℕ) → k < from → entry_in (with_blocks x words from to) k ≡ entry_in x k
  entry-before k h = entry-left x (place_of from) (table_bytes (slice from to words)) (place_of k) (inl (omega arith))

  pub entry-after : (k : ℕ) → to ≤ k → entry_in (with_blocks x words from to) k ≡ entry_in x k
  entry-after k h = let s = bytes-sized in entry-left x (place_of from) (table_bytes (slice from to words)) (place_of k) (inr (omega arith))

  pub u16-before-blocks : (j : ℕ) → j ≤ 8 → u16_at (with_blocks x words from to) j ≡ u16_at x j
  u16-before-blocks j h = u16-left x (place_of from) (table_bytes (slice from to words)) j (inl (omega arith))

  pub marks-before-blocks : marks_in (with_blocks x words from to) ≡ marks_in x
  marks-before-blocks = part_left x (place_of from) (table_bytes (slice from to words)) marks_at cells (inl (omega arith))
