-- Tables that hold the blocks of a context of `meaning`, and tables with blocks added.
-- Assumes nothing.
use Prim.Native.Nat.{ℕ, zero, suc, ◌+◌, ◌*◌, ◌/◌, ◌%◌, ◌<◌, ◌≤◌}
use Rattle.std.specs.Prelude.{◌≡◌, List, [], ◌∷◌, ◌++◌, get_or, take, drop}
use Rattle.std.proofs.Math.Path.{refl, sym}
use Rattle.std.proofs.Common.{◌∙◌, ap, inl, zero-add, add-zero, add-suc, suc-add, arith, length-append, take_at, drop_at}
use Rattle.std.proofs.Math.ListN.{length}
use Rattle.meaning.specs.Trees.{Each}
use Rattle.meaning.specs.Generation.{Block}
use Rattle.meaning.specs.Building.{every}
use Rattle.kinds.specs.Write.{write}
use Rattle.kinds.specs.Steps.{step_size, steps_of, step_kept, steps-length, steps-split, steps-joined}
use Rattle.frames.specs.Tables.{first}
use Rattle.frames.specs.Packing.{first-same}
use Rattle.starkinfo_codegen.specs.Encoding.{records, records-append, records-length, encoded}
use Rattle.starkinfo_codegen.specs.Ordering.{cell_of}
use Rattle.builds.specs.Raw.{cell_in, steps_in, start_of, records_from, raw_block_at, raw_blocks}
use Rattle.builds.specs.RawOf.{raw_of}
use Rattle.builds.specs.Starts.{records-split, records-same, start-next, start-le, from, first-from}

-- ── definitions ──────────────────────────────────────────────────────────────
-- a block's word
abbrev pub word_of : Block → ℕ
word_of b = cell_of b.expression b.row + 1024 * length b.steps

abbrev pub words_of : List Block → List ℕ
words_of [] = []
words_of (b ∷ bs) = word_of b ∷ words_of bs

-- a block of a cell that has a mark's byte
abbrev pub Celled : Block → Type 0
Celled b = (b.expression < 512) × (b.row < 2)

-- THE TABLES HOLD BLOCKS: the raw blocks that they say are these, their steps as records
abbrev pub Held : List ℕ → List ℕ → ℕ → List Block → Type 0
Held t l n bs = raw_blocks t l n ≡ raw_of bs

-- as they do where their words stand in the block table from number n on, and their steps' records in the list from step number `at` on
pub record InTables (t l : List ℕ) (n at : ℕ) (bs : List Block) : Type 0 where
  pub cells : Each Celled bs
  pub words : (k : ℕ) → k < length bs → get_or t (n + k) 0 ≡ get_or (words_of bs) k 0
  pub steps : records_from l at (length (every bs)) ≡ records (every bs)

-- ── laws ─────────────────────────────────────────────────────────────────────
parts : {A : Type 0} (xs ys us vs : List A) → length xs ≡ length ys → xs ++ us ≡ ys ++ vs → (xs ≡ ys) × (us ≡ vs)
parts xs ys us vs n e = (
  sym (take_at xs us (length xs) refl) ∙ ap (take (length xs)) e ∙ take_at ys vs (length xs) (sym n),
  sym (drop_at xs us (length xs) refl) ∙ ap (drop (length xs)) e ∙ drop_at ys vs (length xs) (sym n),
)

-- from block number a on
held-from : (t l : List ℕ) (bs : List Block) (a : ℕ) → InTables t l a (start_of t a) bs → from (raw_block_at t l) a (length bs) ≡ raw_of bs
held-from t l [] a h = refl
held-from t l (b ∷ bs) a h =
    let here = h.cells.0 in
    let v : get_or t a 0 ≡ word_of b = rw add-zero at (h.words 0 (omega arith)) in
    let c : cell_in (get_or t a 0) ≡ cell_of b.expression b.row = omega (arith, v, here.0, here.1) in
    let n : steps_in (get_or t a 0) ≡ length b.steps = omega (arith, v, here.0, here.1) in
    let e : cell_in (get_or t a 0) / 2 ≡ b.expression = omega (arith, c, here.1) in
    let r : cell_in (get_or t a 0) % 2 ≡ b.row = omega (arith, c, here.1) in
    let m = length b.steps in
    let z = length (every bs) in
    let whole : records_from l (start_of t a) m ++ records_from l (start_of t a + m) z ≡ records b.steps ++ records (every bs)
    = sym (records-split l (start_of t a) m z)
    ∙ ap (records_from l (start_of t a)) (sym (length-append b.steps (every bs)))
    ∙ h.steps
    ∙ records-append b.steps (every bs) in
    let both = parts (records_from l (start_of t a) m) (records b.steps) (records_from l (start_of t a + m) z) (records (every bs))
    (steps-length (drop (step_size * start_of t a) l) m ∙ sym (records-length b.steps)) whole in
    let next : start_of t (suc a) ≡ start_of t a + m = start-next t a ∙ rw n in
    let rest : from (raw_block_at t l) (suc a) (length bs) ≡ raw_of bs
    = held-from t l bs (suc a)
    (record {
      cells = h.cells.1;
      words = λ k g. rw (suc-add a k, ← add-suc a k) (h.words (suc k) (omega arith));
      steps = rw next both.1;
    }) in
    rw (e, r, n, both.0, rest)

-- BLOCKS IN TABLES are held
pub held_all : (t l : List ℕ) (bs : List Block) → InTables t l 0 0 bs → Held t l (length bs) bs
unfolding first start_of
held_all t l bs h = ap (raw_blocks t l) (sym (zero-add (length bs))) ∙ first-from (raw_block_at t l) 0 (length bs) ∙ held-from t l bs 0 h

-- NO BLOCK
pub held_none : (t l : List ℕ) → Held t l 0 []
unfolding first
held_none t l = refl

-- BLOCKS ADDED after those that stand: the table goes on, and so does the list
module _ (t l t' : List ℕ) (n : ℕ) (cs : List Block) (same : (k : ℕ) → k < n → get_or t' k 0 ≡ get_or t k 0) where
  start-same : (k : ℕ) → k ≤ n → start_of t' k ≡ start_of t k
  unfolding start_of
  start-same zero h = refl
  start-same (suc k) h = rw (start-same k (omega arith), same k (omega arith))

  abbrev pub put : List ℕ
  put = write l (step_size * start_of t n) (encoded (every cs))

  before_same : (k : ℕ) → k < n → raw_block_at t' put k ≡ raw_block_at t l k
  before_same k h =
      let m = steps_in (get_or t k 0) in
      let g : start_of t k + m ≤ start_of t n = rw (← start-next t k) (start-le t (suc k) n h) in
      let q : records_from put (start_of t k) m ≡ records_from l (start_of t k) m
      = records-same l put (start_of t k) (start_of t k) m
      (λ i u. step_kept l (step_size * start_of t n) (encoded (every cs)) (step_size * (start_of t k + i)) (inl (omega arith))) in
      rw (same k h, start-same k (omega arith), q)

  module _ (cells : Each Celled cs) (words : (k : ℕ) → k < length cs → get_or t' (n + k) 0 ≡ get_or (words_of cs) k 0) (room : step_size * (start_of t n + length (every cs)) ≤ length l) where
    put-records : records_from put (start_of t n) (length (every cs)) ≡ records (every cs)
    unfolding encoded
    put-records =
        let at = start_of t n in
        let rs = records (every cs) in
        let m : length rs ≡ length (every cs) = records-length (every cs) in
        let fits : step_size * (at + length rs) ≤ length l = omega (arith, m) in
        let whole : steps_of put at ++ records_from put at (length rs) ≡ steps_of l at ++ rs
        = sym (steps-split put at (length rs)) ∙ steps-joined l at rs fits in
        let both = parts (steps_of put at) (steps_of l at) (records_from put at (length rs)) rs (steps-length put at ∙ sym (steps-length l at)) whole in
        rw m at both.1

    added : from (raw_block_at t' put) n (length cs) ≡ raw_of cs
    added = held-from t' put cs n (record { cells = cells; words = words; steps = rw (start-same n (omega arith)) put-records })

    pub raw-added : raw_blocks t' put (n + length cs) ≡ raw_blocks t l n ++ raw_of cs
    raw-added = first-from (raw_block_at t' put) n (length cs) ∙ rw (first-same (raw_block_at t l) (raw_block_at t' put) n before_same, added)
