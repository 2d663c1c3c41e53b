-- A result's copy put into a list, and its block's word grown: the raw blocks are then those of `copy_into`.
-- Assumes nothing.
use Prim.Native.Nat.{ℕ, zero, suc, ◌+◌, ◌*◌, ◌-◌, ◌/◌, ◌%◌, ◌<◌, ◌≤◌}
use Rattle.std.specs.Prelude.{◌≡◌, Bool, true, false, ◌||◌, cond, List, [], ◌∷◌, ◌++◌, get_or, set, drop, eqb}
use Rattle.std.proofs.Math.Path.{refl}
use Rattle.std.proofs.Common.{sym, ◌∙◌, ap, inl, arith, add-zero, add-suc, suc-add, get_or-append-add, eq-eqb, ne_eqb, eqb-true}
use Rattle.std.proofs.Math.Option.{none, some}
use Rattle.std.proofs.Math.ListN.{length}
use Rattle.std.proofs.Math.Seq.{get_or-set_same, get_or-set_other}
use Rattle.std.proofs.lemmas.Bool.{eqb-false}
use Rattle.meaning.specs.Generation.{onto, before}
use Rattle.meaning.proofs.Laws.Tests.{true-false}
use Rattle.kinds.specs.Write.{write, write-append, write-length}
use Rattle.kinds.specs.Steps.{step_size, step_at, step_bytes, steps_of, steps_bytes, step-sized, step-read, step_kept, steps-length, steps-at, steps-joined}
use Rattle.kinds.specs.declared.reference.Reference.{Reference}
use Rattle.kinds.specs.declared.step.Step.{Step}
use Rattle.frames.specs.Tables.{first}
use Rattle.frames.specs.Packing.{first-same}
use Rattle.starkinfo_codegen.specs.Sources.{copy_step}
use Rattle.starkinfo_codegen.specs.Ordering.{cell_of}
use Rattle.builds.specs.Raw.{RawBlock, cell_in, steps_in, start_of, records_from, raw_block_at, raw_blocks, last_destination, copied, is_block, copy_into, standing}
use Rattle.builds.specs.Starts.{step-drop, records-more, records-same, start-next, start-le, from, first-from, from-same}
use Rattle.builds.specs.Lists.{cell-block, standing-snoc}
use Rattle.builds.specs.Results.{or_else, find_block, inserted}
use Rattle.std.specs.Prelude as code

-- ── the last destination ─────────────────────────────────────────────────────
last_snoc : (xs : List Step) (x : Step) → last_destination (xs ++ (x ∷ [])) ≡ some x.dest
last_snoc [] x = refl
last_snoc (a ∷ []) x = refl
last_snoc (a ∷ b ∷ xs) x = last_snoc (b ∷ xs) x

-- ── the list with a copy put in ──────────────────────────────────────────────
module _ (l : List ℕ) (pos end : ℕ) (d : Reference) (inside : pos ≤ end) (fits : step_size * (end + 1) ≤ length l) where
  abbrev copy_of : Step
  copy_of = copy_step d (step_at l (step_size * (pos - 1))).dest

  abbrev moved : List Step
  moved = records_from l pos (end - pos)

  abbrev l' : List ℕ
  l' = inserted l pos end d

  abbrev first_put : List ℕ
  first_put = write l (step_size * pos) (step_bytes copy_of)

  two-writes : l' ≡ write first_put (step_size * suc pos) (steps_bytes moved)
  unfolding inserted
  two-writes =
      let e : step_size * pos + length (step_bytes copy_of) ≡ step_size * suc pos = omega (arith, step-sized copy_of) in
      rw (write-append l (step_size * pos) (step_bytes copy_of) (steps_bytes moved), e)

  pub inserted-before : (q : ℕ) → q < pos → step_at l' (step_size * q) ≡ step_at l (step_size * q)
  inserted-before q h =
      ap (λ (z : List ℕ). step_at z (step_size * q)) two-writes
      ∙ step_kept first_put (step_size * suc pos) (steps_bytes moved) (step_size * q) (inl (omega arith))
      ∙ step_kept l (step_size * pos) (step_bytes copy_of) (step_size * q) (inl (omega arith))

  pub inserted-at : step_at l' (step_size * pos) ≡ copy_of
  inserted-at =
      ap (λ (z : List ℕ). step_at z (step_size * pos)) two-writes
      ∙ step_kept first_put (step_size * suc pos) (steps_bytes moved) (step_size * pos) (inl (omega arith))
      ∙ step-read l (step_size * pos) copy_of (omega arith)

  pub inserted-after : (q : ℕ) → pos ≤ q → q < end → step_at l' (step_size * suc q) ≡ step_at l (step_size * q)
  inserted-after q g h =
      let n : length moved ≡ end - pos = steps-length (drop (step_size * pos) l) (end - pos) in
      let xs = steps_of first_put (suc pos) in
      let room : step_size * (suc pos + length moved) ≤ length first_put = rw write-length (omega arith) in
      let k : suc q ≡ length xs + (q - pos) = omega (arith, steps-length first_put (suc pos)) in
      let z : step_size * pos + step_size * (q - pos) ≡ step_size * q = omega arith in
      ap (λ (z : List ℕ). step_at z (step_size * suc q)) two-writes
      ∙ sym (steps-at (write first_put (step_size * suc pos) (steps_bytes moved)) (suc q) (suc pos + length moved) copy_of (omega arith))
      ∙ ap (λ (z : List Step). get_or z (suc q) copy_of) (steps-joined first_put (suc pos) moved room)
      ∙ ap (λ i. get_or (xs ++ moved) i copy_of) k
      ∙ get_or-append-add xs moved (q - pos) copy_of
      ∙ steps-at (drop (step_size * pos) l) (q - pos) (end - pos) copy_of (omega arith)
      ∙ step-drop l (step_size * pos) (step_size * (q - pos))
      ∙ ap (step_at l) z

-- ── the table with a block grown ─────────────────────────────────────────────
module _ (t : List ℕ) (k : ℕ) (there : k < length t) where
  abbrev word : ℕ
  word = get_or t k 0

  abbrev t' : List ℕ
  t' = set t k (word + 1024)

  start_until : (j : ℕ) → j ≤ k → start_of t' j ≡ start_of t j
  unfolding start_of
  start_until zero h = refl
  start_until (suc j) h = rw (start_until j (omega arith), get_or-set_other t k j (word + 1024) 0 (λ e. omega arith))

  start-past : (m : ℕ) → start_of t' (suc k + m) ≡ suc (start_of t (suc k + m))
  unfolding start_of
  start-past zero = rw (add-zero (suc k), start_until k (omega arith), get_or-set_same t k (word + 1024) 0 there) (omega arith)
  start-past (suc m) = rw (add-suc (suc k) m, start-past m, get_or-set_other t k (suc k + m) (word + 1024) 0 (λ e. omega arith)) (omega arith)

-- ── the block of a cell ──────────────────────────────────────────────────────
-- none is found: none stands
find_none : (t l : List ℕ) (n e r : ℕ) → r < 2 → find_block t n (cell_of e r) ≡ code.None → standing e r (raw_blocks t l n) ≡ false
unfolding find_block first
find_none t l zero e r h q = refl
find_none t l (suc n) e r h q =
    standing-snoc e r (raw_blocks t l n) (raw_block_at t l n)
    ∙ go (find_block t n (cell_of e r)) (eqb (cell_in (get_or t n 0)) (cell_of e r)) refl refl q (find_none t l n e r h)
  where
    c : ℕ
    c = cell_in (get_or t n 0)

    off : (eqb c (cell_of e r) ≡ false) → eqb (cell_of e r) c ≡ false
    off p = ne_eqb (cell_of e r) c (λ z. eqb-false c (cell_of e r) p (sym z))

    go :
        (f : code.Option ℕ) (v : Bool) → find_block t n (cell_of e r) ≡ f → eqb c (cell_of e r) ≡ v → or_else f (cond v (code.Some n) code.None) ≡ code.None →
        (find_block t n (cell_of e r) ≡ code.None → standing e r (raw_blocks t l n) ≡ false) →
        (standing e r (raw_blocks t l n) || is_block e r (raw_block_at t l n)) ≡ false
    go (code.Some k) v p u q ih = absurd (let z : ◌≡◌ {A = ℕ} 0 1 = cc in omega arith)
    go code.None true p u q ih = absurd (let z : ◌≡◌ {A = ℕ} 0 1 = cc in omega arith)
    go code.None false p u q ih = rw (ih p, cell-block e r c h, off u)

pub record Here (t : List ℕ) (n c k : ℕ) : Type 0 where
  pub below : k < n
  pub cell : cell_in (get_or t k 0) ≡ c
  pub first : find_block t k c ≡ code.None

-- one is found: it is there, and no earlier one is
pub find-here : (t : List ℕ) (n c k : ℕ) → find_block t n c ≡ code.Some k → Here t n c k
unfolding find_block
find-here t zero c k q = absurd (let z : ◌≡◌ {A = ℕ} 0 1 = cc in omega arith)
find-here t (suc n) c k q = go (find_block t n c) (eqb (cell_in (get_or t n 0)) c) refl refl q (find-here t n c k)
  where
    go :
        (f : code.Option ℕ) (v : Bool) → find_block t n c ≡ f → eqb (cell_in (get_or t n 0)) c ≡ v → or_else f (cond v (code.Some n) code.None) ≡ code.Some k →
        (find_block t n c ≡ code.Some k → Here t n c k) → Here t (suc n) c k
    go (code.Some j) v p u q ih = let h = ih (p ∙ q) in record { below = omega (arith, h.below); cell = h.cell; first = h.first }
    go code.None true p u q ih =
        let z : n ≡ k = cc in
        record { below = omega arith; cell = rw (← z) (eqb-true (cell_in (get_or t n 0)) c u); first = rw (← z) p }
    go code.None false p u q ih = absurd (let z : ◌≡◌ {A = ℕ} 0 1 = cc in omega arith)

-- ── blocks one by one ────────────────────────────────────────────────────────
copy-none : (e r : ℕ) (d : Reference) (bs : List RawBlock) → standing e r bs ≡ false → copy_into e r d bs ≡ none
copy-none e r d [] h = refl
copy-none e r d (b ∷ bs) h = go (is_block e r b) h (copy-none e r d bs)
  where
    go :
        (v : Bool) → (v || standing e r bs) ≡ false → (standing e r bs ≡ false → copy_into e r d bs ≡ none) →
        cond v (before (copied b d (last_destination b.records)) bs) (onto b (copy_into e r d bs)) ≡ none
    go true q ih = absurd (true-false refl q)
    go false q ih = rw (ih q)

abbrev with_copy : RawBlock → Step → RawBlock
with_copy b s = record { expression = b.expression; row = b.row; records = b.records ++ (s ∷ []) }

module _ (e r : ℕ) (d : Reference) (b : RawBlock) (ys : List RawBlock) (q : Reference) (there : is_block e r b ≡ true) (last : last_destination b.records ≡ some q) where
  copy-there : (xs : List RawBlock) → standing e r xs ≡ false → copy_into e r d (xs ++ (b ∷ ys)) ≡ some (xs ++ (with_copy b (copy_step d q) ∷ ys))
  copy-there [] h = rw (there, last)
  copy-there (x ∷ xs) h = go (is_block e r x) h (copy-there xs)
    where
      go :
          (v : Bool) → (v || standing e r xs) ≡ false →
          (standing e r xs ≡ false → copy_into e r d (xs ++ (b ∷ ys)) ≡ some (xs ++ (with_copy b (copy_step d q) ∷ ys))) →
          cond v (before (copied x d (last_destination x.records)) (xs ++ (b ∷ ys))) (onto x (copy_into e r d (xs ++ (b ∷ ys))))
          ≡ some (x ∷ (xs ++ (with_copy b (copy_step d q) ∷ ys)))
      go true p ih = absurd (true-false refl p)
      go false p ih = rw (ih p)

-- ── the copy over tables ─────────────────────────────────────────────────────
module _ (t l : List ℕ) (n e r : ℕ) (d : Reference) (row : r < 2) where
  -- NO BLOCK: there is nothing to copy from
  pub copy-nowhere : find_block t n (cell_of e r) ≡ code.None → copy_into e r d (raw_blocks t l n) ≡ none
  copy-nowhere h = copy-none e r d (raw_blocks t l n) (find_none t l n e r row h)

  module _ (k : ℕ) (at : find_block t n (cell_of e r) ≡ code.Some k) (few : n ≤ length t) (enough : 1 ≤ steps_in (get_or t k 0)) (room : step_size * (start_of t n + 1) ≤ length l) where
    abbrev w : ℕ
    w = get_or t k 0

    abbrev T : List ℕ
    T = set t k (w + 1024)

    abbrev pos : ℕ
    pos = start_of t (suc k)

    abbrev L : List ℕ
    L = inserted l pos (start_of t n) d

    here : Here t n (cell_of e r) k
    here = find-here t n (cell_of e r) k at

    in_table : k < length t
    in_table = omega (arith, here.below)

    pos_in : pos ≤ start_of t n
    pos_in = start-le t (suc k) n here.below

    -- the blocks before it
    before_same : (j : ℕ) → j < k → raw_block_at T L j ≡ raw_block_at t l j
    before_same j h =
        let g : start_of t j + steps_in (get_or t j 0) ≤ pos = rw (← start-next t j) (start-le t (suc j) (suc k) (omega arith)) in
        let q : records_from L (start_of t j) (steps_in (get_or t j 0)) ≡ records_from l (start_of t j) (steps_in (get_or t j 0))
        = records-same l L (start_of t j) (start_of t j) (steps_in (get_or t j 0)) (λ i u. inserted-before l pos (start_of t n) d pos_in room (start_of t j + i) (omega arith)) in
        rw (get_or-set_other t k j (w + 1024) 0 (λ z. omega arith), start_until t k in_table j (omega arith), q)

    -- its own
    own : raw_block_at T L k ≡ with_copy (raw_block_at t l k) (copy_of l pos (start_of t n) d pos_in room)
    own =
        let c : (w + 1024) % 1024 ≡ w % 1024 = omega arith in
        let s : (w + 1024) / 1024 ≡ suc (w / 1024) = omega arith in
        let q : records_from L (start_of t k) (steps_in w) ≡ records_from l (start_of t k) (steps_in w)
        = records-same l L (start_of t k) (start_of t k) (steps_in w) (λ i u. inserted-before l pos (start_of t n) d pos_in room (start_of t k + i) (omega (arith, start-next t k))) in
        rw (get_or-set_same t k (w + 1024) 0 in_table, c, s, start_until t k in_table k (omega arith), records-more L (start_of t k) (steps_in w), q, ← start-next t k, inserted-at l pos (start_of t n) d pos_in room)

    -- and those after it
    after_same : (j : ℕ) → suc k ≤ j → j < n → raw_block_at T L j ≡ raw_block_at t l j
    after_same j g h =
        let m = steps_in (get_or t j 0) in
        let z : suc k + (j - suc k) ≡ j = omega arith in
        let s : start_of T j ≡ suc (start_of t j) = rw z at (start-past t k in_table (j - suc k)) in
        let u : start_of t j + m ≤ start_of t n = rw (← start-next t j) (start-le t (suc j) n h) in
        let v : pos ≤ start_of t j = start-le t (suc k) j g in
        let q : records_from L (suc (start_of t j)) m ≡ records_from l (start_of t j) m
        = records-same l L (start_of t j) (suc (start_of t j)) m (λ i o. rw (suc-add (start_of t j) i) (inserted-after l pos (start_of t n) d pos_in room (start_of t j + i) (omega arith) (omega arith))) in
        rw (get_or-set_other t k j (w + 1024) 0 (λ y. omega arith), s, q)

    last-is : last_destination (records_from l (start_of t k) (steps_in w)) ≡ some (step_at l (step_size * (pos - 1))).dest
    last-is =
        let p = steps_in w - 1 in
        let z : steps_in w ≡ suc p = omega arith in
        let y : start_of t k + p ≡ pos - 1 = omega (arith, start-next t k) in
        rw z (ap last_destination (records-more l (start_of t k) p) ∙ last_snoc (records_from l (start_of t k) p) (step_at l (step_size * (start_of t k + p))) ∙ rw y)

    split : (g : ℕ → RawBlock) → first g n ≡ first g k ++ (g k ∷ from g (suc k) (n - suc k))
    split g =
        let z : n ≡ k + suc (n - suc k) = omega (arith, here.below) in
        ap (first g) z ∙ first-from g k (suc (n - suc k))

    is-here : is_block e r (raw_block_at t l k) ≡ true
    is-here = cell-block e r (cell_in w) row ∙ eq-eqb (cell_of e r) (cell_in w) (sym here.cell)

    -- A COPY PUT IN, and the block's word grown, is the copy into its block
    pub copy-put : copy_into e r d (raw_blocks t l n) ≡ some (raw_blocks T L n)
    copy-put =
        let g = raw_block_at t l in
        let h = raw_block_at T L in
        let rest : from h (suc k) (n - suc k) ≡ from g (suc k) (n - suc k) = from-same g h n (suc k) (n - suc k) (omega (arith, here.below)) after_same in
        rw (split g, split h, first-same g h k before_same, own, rest)
        (copy-there e r d (g k) (from g (suc k) (n - suc k)) (step_at l (step_size * (pos - 1))).dest is-here last-is (first g k) (find_none t l k e r row here.first))

    pub copy-steps : start_of T n ≡ suc (start_of t n)
    copy-steps =
        let z : suc k + (n - suc k) ≡ n = omega (arith, here.below) in
        rw z at (start-past t k in_table (n - suc k))
